-- A level's row has the facts that all rows share; where there is none, the call is refused.
use Rattle.levels.proofs.Rows.{shared-row}
use mathlib.Core.Path.{refl, sym, ◌∙◌}
use Rattle.naming.proofs.place.Goals as goal

pub place_in-requires : goal.place_in-requires
place_in-requires c = shared-row _ _ (sym c.level_of.ensures ∙ c.in-Some.is)

pub returns-in-Some : goal.returns-in-Some
returns-in-Some c = rw (sym c.level_of.ensures ∙ c.in-Some.is) c.place_in.ensures

pub returns-in-None : goal.returns-in-None
returns-in-None c = rw (sym c.level_of.ensures ∙ c.in-None.is) refl
