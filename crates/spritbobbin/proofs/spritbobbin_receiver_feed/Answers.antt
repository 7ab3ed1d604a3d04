-- The C call is the call behind it; where it is refused, state and frame are not written.
use mathlib.Core.Path.{refl}
use borrow.Author.Tests.{eq-eqb, ne_eqb}
use Rattle.spritbobbin.proofs.spritbobbin_receiver_feed.Goals as goal

pub returns-then-fed-ne0 : goal.returns-then-fed-ne0
returns-then-fed-ne0 c =
    let s = c.state_from-s.ensures in
    rw (← s, ← c.fed_by-fed.ensures, ne_eqb _ _ c.if-fed-ne0.true) (refl, refl, refl, c.fed_numbers.ensures)

pub returns : goal.returns
returns c =
    let s = c.state_from-s.ensures in
    rw (← s, ← c.fed_by-fed.ensures, eq-eqb _ _ c.if-fed-ne0.false) (refl, c.state_numbers.ensures, refl, c.fed_numbers.ensures)
