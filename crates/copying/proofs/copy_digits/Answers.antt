-- A copy that is not refused: the digits before it are held, its own appended, those behind it left (Carried).
use mathlib.Core.Path.{sym, ◌∙◌}
use Prim.Native.Nat.{◌+◌, ◌*◌}
use native.Mathlib.Omega.{arith}
use borrow.Author.Tests.{leb-true}
use lib.ListN.{length}
use Rattle.digits.specs.Digits.{Bytes}
use Rattle.copying.proofs.Carried.{copied, none-there, none_here, all_there}
use Rattle.copying.proofs.copy_digits.Goals as goal
use Rattle.copying.proofs.copy_digits.Goals.{then-not-has_digits-via-then-not-has_digits, then-not-has_digits-via-else-not-has_digits+then-not-has_digits-2}

pub returns-then-not-has_digits : goal.returns-then-not-has_digits
returns-then-not-has_digits c =
    let a = c.args in
    elim c.then-not-has_digits.branch [
      | then-not-has_digits-via-then-not-has_digits w ↦
          none-there a.to.now a.at a.from.now a.first a.count (sym c.has_digits.ensures ∙ w.if-not-has_digits.true)
      | then-not-has_digits-via-else-not-has_digits+then-not-has_digits-2 w ↦
          none_here a.to.now a.at a.from.now a.first a.count (sym c.has_digits.ensures ∙ w.if-not-has_digits.false)
          (sym w.has_digits-else-not-has_digits.ensures ∙ w.if-not-has_digits-2.true)
    ]

pub returns : goal.returns
returns c =
    let a = c.args in
    let to-has = sym c.has_digits.ensures ∙ c.if-not-has_digits.false in
    let from-has = sym c.has_digits-else-not-has_digits.ensures ∙ c.if-not-has_digits-2.false in
    let append = c.append-w in
    let begin = c.begin-begun in
    let close = c.close in
    let bytes : Bytes close.new.to = λ i. omega (arith, c.type_inv.to i) in
    all_there a.to.now a.at a.from.now a.first a.count _ to-has from-has
    (copied a.from.now a.first begin.ensures append.ensures close.ensures bytes (close.auto.to ∙ append.auto.to)
    (leb-true (a.at + a.count) (8 * length a.to.now) to-has) (leb-true (a.first + a.count) (8 * length a.from.now) from-has))
