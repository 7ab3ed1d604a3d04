-- Refused with 2, or taken apart (Made).
use mathlib.Core.Path.{◌≡◌, refl, sym, ◌∙◌}
use mathlib.Core.Bool.{true, false}
use Prim.Native.Nat.{ℕ}
use native.Mathlib.Omega.{arith}
use lib.ListN.{length}
use Rattle.digits.specs.Digits.{Bytes}
use Rattle.multiframe.specs.Calls.{lengths_right}
use Rattle.multiframe.specs.Steps.{ColumnTaken}
use Rattle.multiframe.proofs.Made.{all-taken-apart}
use Rattle.multiframe.proofs.Lengths.{right-lengths}
use Rattle.multiframe.proofs.apart.Goals as goal

pub returns-then-not-lengths_right : goal.returns-then-not-lengths_right
returns-then-not-lengths_right c =
    let a = c.args in
    let no : lengths_right (length a.multiframe.now) (length a.channels.now) (length a.signalling.now) (length a.spare.now) ≡ false
    = sym c.lengths_right.ensures ∙ c.if-not-lengths_right.true in
    record { answer = rw no refl; taken = λ e. absurd (two e); kept = λ _. (refl, refl, refl) }
  where
    two : ◌≡◌ {A = ℕ} 2 0 → ⊥
    two e = omega arith

pub take_channels-requires : goal.take_channels-requires
take_channels-requires c =
    let a = c.args in
    let w = right-lengths a.multiframe.now a.channels.now a.signalling.now a.spare.now (sym c.lengths_right.ensures ∙ c.if-not-lengths_right.false) in
    (w.0, w.1)

pub take_column-requires : goal.take_column-requires
take_column-requires c =
    let a = c.args in
    let w = right-lengths a.multiframe.now a.channels.now a.signalling.now a.spare.now (sym c.lengths_right.ensures ∙ c.if-not-lengths_right.false) in
    (w.0, omega (arith, w.2), omega (arith, w.2))

pub take_spare-requires : goal.take_spare-requires
take_spare-requires c =
    let a = c.args in
    let w = right-lengths a.multiframe.now a.channels.now a.signalling.now a.spare.now (sym c.lengths_right.ensures ∙ c.if-not-lengths_right.false) in
    (w.0, w.3)

pub returns : goal.returns
returns c =
    let a = c.args in
    let right : lengths_right (length a.multiframe.now) (length a.channels.now) (length a.signalling.now) (length a.spare.now) ≡ true
    = sym c.lengths_right.ensures ∙ c.if-not-lengths_right.false in
    let w = right-lengths a.multiframe.now a.channels.now a.signalling.now a.spare.now right in
    let channels = c.take_channels in
    let signalling = c.take_column in
    let spare = c.take_spare in
    let ch = channels.new.channels in
    let si = signalling.new.column in
    let column : ColumnTaken a.multiframe.now 48 15 si = rw w.2 at signalling.ensures in
    let bc : Bytes ch = λ i. omega (arith, c.type_inv.channels i) in
    let bs : Bytes si = λ i. omega (arith, c.type_inv.signalling i) in
    record {
      answer = rw right refl;
      taken = λ _. all-taken-apart a.multiframe.now ch si spare.new.spare channels.ensures column spare.ensures (omega (arith, w.1)) (omega (arith, w.2)) bc bs;
      kept = λ e. absurd (none e);
    }
  where
    none : ◌≡◌ {A = ℕ} 0 2 → ⊥
    none e = omega arith
