-- `is_made`: the first digits are the window, and no other is wrong by the recurrence.
use mathlib.Core.Path.{◌≡◌, sym, ◌∙◌}
use mathlib.Core.Bool.{true, false, true≢false}
use borrow.Author.Tests.{eqb-true, lt-leb}
use native.Mathlib.Omega.{arith}
use Rattle.digits.specs.Digits.{digits_of}
use Rattle.digits.proofs.Laws.{digits-length, digits-binary}
use Rattle.patterns.proofs.Made.{known, made_all}
use Rattle.patterns.proofs.is_made.Goals as goal
use Rattle.patterns.proofs.is_made.Goals.{then-n-ge23, else-n-ge23}

pub wrong_in-requires : goal.wrong_in-requires
wrong_in-requires c =
    let a = c.args in
    let pre = c.requires in
    (pre.2, pre.3, known a.pattern pre.0, λ z. pre.2)

pub returns-then-read_digits-window : goal.returns-then-read_digits-window
returns-then-read_digits-window c =
    let a = c.args in
    let pre = c.requires in
    let ds = digits_of a.read.now in
    λ e.
    elim c.if-n-ge23.branch [
      | then-n-ge23 w ↦
          let first = sym w.read_digits.ensures.0 ∙ eqb-true _ _ (sym w.value-is ∙ c.if-read_digits-window.true) in (
            w.if-n-ge23.true,
            made_all a.pattern a.window pre.0 pre.1 ds (digits-binary a.read.now) ds a.n w.if-n-ge23.true (omega (arith, digits-length a.read.now, pre.2)) first
                (sym c.wrong_in.ensures ∙ eqb-true _ _ e),
          )
      | else-n-ge23 w ↦
          let few = lt-leb 23 a.n w.if-n-ge23.false in
          let never : true ≡ false = cc (few, w.value-is, c.if-read_digits-window.true) in
          absurd (true≢false never)
    ]
