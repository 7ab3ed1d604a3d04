-- `multiplex`: a level's row, or refused with 1.
use mathlib.Core.Path.{refl, sym, ◌∙◌}
use Rattle.levels.proofs.Rows.{shared-row}
use Rattle.multiplex.proofs.multiplex.Goals as goal

pub multiplex_on-requires : goal.multiplex_on-requires
multiplex_on-requires c = shared-row _ _ (sym c.level_of-found.ensures ∙ c.in-Some.is)

pub returns-in-Some : goal.returns-in-Some
returns-in-Some c =
    let e = sym c.level_of-found.ensures ∙ c.in-Some.is in
    rw e c.multiplex_on.ensures

pub returns-in-None : goal.returns-in-None
returns-in-None c =
    let e = sym c.level_of-found.ensures ∙ c.in-None.is in
    rw (e, c.from.ensures) (refl, refl)
