-- The C call is the call behind it; where it is refused, the state is not written.
use mathlib.Core.Path.{refl}
use borrow.Author.Tests.{eq-eqb, ne_eqb}
use Rattle.spritbobbin.proofs.finder_face.spritbobbin_finder_feed.Goals as goal

pub returns-then-fed-ne0 : goal.returns-then-fed-ne0
returns-then-fed-ne0 c =
    let m = c.phase_of-mode.ensures in
    let e = c.feed-fed.ensures in
    rw (← m, ← e, ne_eqb _ _ c.if-fed-ne0.true) (refl, refl, c.found_numbers.ensures)

pub returns : goal.returns
returns c =
    let m = c.phase_of-mode.ensures in
    let e = c.feed-fed.ensures in
    rw (← m, ← e, eq-eqb _ _ c.if-fed-ne0.false) (refl, c.four_numbers.ensures, c.found_numbers.ensures)
