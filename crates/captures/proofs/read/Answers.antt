-- `read`: the fields, then the level and the line.
use mathlib.Core.Path.{refl, sym, ◌∙◌}
use borrow.Author.Tests.{eq-eqb, ne_eqb}
use Rattle.levels.proofs.Rows.{shared-row}
use Rattle.captures.proofs.read.Goals as goal

pub returns-then-found-ne0 : goal.returns-then-found-ne0
returns-then-found-ne0 c = rw (← c.fields_of-found.ensures, ne_eqb _ _ c.if-found-ne0.true) refl

pub judged_on-requires : goal.judged_on-requires
judged_on-requires c = shared-row _ _ (sym c.level_of-level.ensures ∙ c.in-Some.is)

pub returns-in-Some : goal.returns-in-Some
returns-in-Some c =
    let e = sym c.level_of-level.ensures ∙ c.in-Some.is in
    rw (← c.fields_of-found.ensures, eq-eqb _ _ c.if-found-ne0.false, e) c.judged_on.ensures

pub returns-in-None : goal.returns-in-None
returns-in-None c =
    let e = sym c.level_of-level.ensures ∙ c.in-None.is in
    rw (← c.fields_of-found.ensures, eq-eqb _ _ c.if-found-ne0.false, e) c.unread_at.ensures
