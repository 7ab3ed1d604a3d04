-- `judge`: a level's row, or refused with 1.
use mathlib.Core.Path.{refl, sym, ◌∙◌}
use Rattle.levels.proofs.Rows.{shared-row}
use Rattle.judge.proofs.judge.Goals as goal

pub judge_on-requires : goal.judge_on-requires
judge_on-requires c = shared-row _ _ (sym c.level_of.ensures ∙ c.in-Some.is)

pub returns-in-Some : goal.returns-in-Some
returns-in-Some c = let e = sym c.level_of.ensures ∙ c.in-Some.is in rw e c.judge_on.ensures

pub returns-in-None : goal.returns-in-None
returns-in-None c = let e = sym c.level_of.ensures ∙ c.in-None.is in rw e refl
