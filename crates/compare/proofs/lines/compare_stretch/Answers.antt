-- `compare_stretch` answers by the level's row, or refuses a number that is no level.
use mathlib.Core.Path.{sym, ◌∙◌}
use Rattle.levels.proofs.Rows.{shared-row}
use Rattle.compare.specs.Lines.{stretch_of}
use Rattle.compare.proofs.lines.compare_stretch.Goals as goal

pub stretch_judged-requires : goal.stretch_judged-requires
stretch_judged-requires c = shared-row _ _ (sym c.level_of-found.ensures ∙ c.in-Some.is)

pub returns-in-Some : goal.returns-in-Some
unfolding stretch_of
returns-in-Some c = rw (sym c.level_of-found.ensures ∙ c.in-Some.is) c.stretch_judged.ensures

pub returns-in-None : goal.returns-in-None
unfolding stretch_of
returns-in-None c = rw (sym c.level_of-found.ensures ∙ c.in-None.is) c.stretch_refused.ensures
