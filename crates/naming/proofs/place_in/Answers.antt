-- A place of the frame has the numbers of its kind.
use Rattle.naming.specs.Frames.{place_in}
use mathlib.Core.Path.{refl}
use borrow.Author.Tests.{lt-ltb, le-ltb}
use Rattle.naming.proofs.place_in.Goals as goal

pub returns-then-row-p : goal.returns-then-row-p
unfolding place_in
returns-then-row-p c =
    let a = c.args in
    rw (le-ltb a.p a.row.digits c.if-row-p.true) refl

pub returns : goal.returns
unfolding place_in
returns c =
    let a = c.args in
    rw (lt-ltb a.p a.row.digits c.if-row-p.false, c.kind_number.ensures, c.owner_of.ensures, c.kind_at-kind.ensures) refl
