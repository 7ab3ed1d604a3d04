-- `write`: a level's row, or refused with 1.
use mathlib.Core.Path.{refl, sym, ◌∙◌}
use Rattle.levels.proofs.Rows.{shared-row, level-byte}
use Rattle.captures.proofs.write.Goals as goal

pub write_on-requires : goal.write_on-requires
write_on-requires c =
    let e = sym c.level_of-found.ensures ∙ c.in-Some.is in
    (shared-row _ _ e, level-byte _ _ e)

pub returns-in-Some : goal.returns-in-Some
returns-in-Some c =
    let e = sym c.level_of-found.ensures ∙ c.in-Some.is in
    rw e c.write_on.ensures

pub returns-in-None : goal.returns-in-None
returns-in-None c =
    let e = sym c.level_of-found.ensures ∙ c.in-None.is in
    rw e (refl, refl)
