-- `repair` answers by the level's row, or refuses a number that is no level. Every row of the table has the shared facts.
use mathlib.Core.Path.{refl, sym, ◌∙◌}
use Rattle.levels.proofs.Rows.{shared-row}
use Rattle.repair.proofs.repair.Goals as goal

pub repair_on-requires : goal.repair_on-requires
repair_on-requires c =
    shared-row c.args.level c.in-Some.row (sym c.level_of-found.ensures ∙ c.in-Some.is)

pub returns-in-Some : goal.returns-in-Some
returns-in-Some c = rw (sym c.level_of-found.ensures ∙ c.in-Some.is) c.repair_on.ensures

pub returns-in-None : goal.returns-in-None
returns-in-None c = rw (sym c.level_of-found.ensures ∙ c.in-None.is) (refl, refl)
