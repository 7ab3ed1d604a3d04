-- `compare_lines` answers by the level's row, or refuses a number that is no level.
use mathlib.Core.Path.{refl, sym, ◌∙◌}
use Rattle.levels.proofs.Rows.{shared-row}
use Rattle.compare.specs.Lines.{lines_of, lines_listed}
use Rattle.compare.proofs.lines.compare_lines.Goals as goal

pub lines_on-requires : goal.lines_on-requires
lines_on-requires c = shared-row _ _ (sym c.level_of-found.ensures ∙ c.in-Some.is)

pub returns-in-Some : goal.returns-in-Some
unfolding lines_of lines_listed
returns-in-Some c = rw (sym c.level_of-found.ensures ∙ c.in-Some.is) c.lines_on.ensures

pub returns-in-None : goal.returns-in-None
unfolding lines_of lines_listed
returns-in-None c = rw (sym c.level_of-found.ensures ∙ c.in-None.is) (c.refused.ensures ∙ rw c.fault_in.ensures refl, refl)
