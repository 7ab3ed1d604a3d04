-- `fresh`: a level's row, or refused with 1.
use mathlib.Core.Path.{refl, sym, ◌∙◌}
use Rattle.verdict_states.proofs.fresh.fresh.Goals as goal

pub returns-in-Some : goal.returns-in-Some
returns-in-Some c =
    let e = sym c.level_of.ensures ∙ c.in-Some.is in
    rw e c.fresh_on.ensures

pub returns-in-None : goal.returns-in-None
returns-in-None c =
    let e = sym c.level_of.ensures ∙ c.in-None.is in
    rw e (refl, refl)
