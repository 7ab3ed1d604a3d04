-- Refused with 2 or 11, or built (Made).
use mathlib.Core.Path.{◌≡◌, refl, sym, ◌∙◌}
use mathlib.Core.Bool.{true, false}
use Prim.Native.Nat.{◌+◌}
use native.Mathlib.Omega.{arith}
use lib.ListN.{length}
use borrow.Author.Tests.{ne_eqb}
use Rattle.digits.specs.Digits.{Bytes}
use Rattle.multiframe.specs.Calls.{lengths_right, first_silent}
use Rattle.multiframe.proofs.Silent.{named, unnamed}
use Rattle.multiframe.proofs.Made.{built-is}
use Rattle.multiframe.proofs.Lengths.{right-lengths}
use Rattle.multiframe.proofs.build.Goals as goal

pub returns-then-not-lengths_right : goal.returns-then-not-lengths_right
returns-then-not-lengths_right c =
    let a = c.args in
    let no : lengths_right (length a.multiframe.now) (length a.channels.now) (length a.signalling.now) (length a.spare.now) ≡ false
    = sym c.lengths_right.ensures ∙ c.if-not-lengths_right.true in
    rw (no, c.from.ensures) (refl, refl)

pub first_silent-requires : goal.first_silent-requires
first_silent-requires c =
    let a = c.args in
    (right-lengths a.multiframe.now a.channels.now a.signalling.now a.spare.now (sym c.lengths_right.ensures ∙ c.if-not-lengths_right.false)).2

pub returns-in-Some : goal.returns-in-Some
returns-in-Some c =
    let a = c.args in
    let right : lengths_right (length a.multiframe.now) (length a.channels.now) (length a.signalling.now) (length a.spare.now) ≡ true
    = sym c.lengths_right.ensures ∙ c.if-not-lengths_right.false in
    let w = right-lengths a.multiframe.now a.channels.now a.signalling.now a.spare.now right in
    let first = named a.signalling.now (λ i. omega (arith, c.type_inv.signalling i)) c.in-Some.i w.2 c.in-Some.ensures in
    rw (right, first, ne_eqb (c.in-Some.i + 1) 0 (λ z. omega arith)) (refl, refl)

pub lay-requires : goal.lay-requires
lay-requires c =
    let a = c.args in
    let w = right-lengths a.multiframe.now a.channels.now a.signalling.now a.spare.now (sym c.lengths_right.ensures ∙ c.if-not-lengths_right.false) in
    (w.0, w.1, w.2, w.3)

pub returns : goal.returns
returns c =
    let a = c.args in
    let right : lengths_right (length a.multiframe.now) (length a.channels.now) (length a.signalling.now) (length a.spare.now) ≡ true
    = sym c.lengths_right.ensures ∙ c.if-not-lengths_right.false in
    let w = right-lengths a.multiframe.now a.channels.now a.signalling.now a.spare.now right in
    let none : first_silent a.signalling.now ≡ 0 = unnamed a.signalling.now (λ i. omega (arith, c.type_inv.signalling i)) w.2 c.in_default.ensures in
    let lay = c.lay in
    let bytes : Bytes lay.new.multiframe = λ i. omega (arith, c.type_inv.multiframe i) in
    rw (right, none) (refl, built-is a.channels.now a.signalling.now a.spare.now lay.new.multiframe lay.ensures bytes (omega (arith, w.0)))
