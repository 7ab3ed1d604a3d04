-- `later_column`: the places so far, all of one kind (Placing).
use mathlib.Core.Path.{◌≡◌, sym, ◌∙◌}
use Prim.Native.Nat.{◌+◌}
use native.Mathlib.Omega.{arith}
use lib.Pow.{pow_mono}
use Rattle.levels.proofs.Line.{word-within}
use Rattle.heads.proofs.Placing.{placed-none, placed-now, placed-more, one-kind}
use Rattle.heads.proofs.later_column.Goals as goal

pub kind_of-kind-requires : goal.kind_of-kind-requires
kind_of-kind-requires c = c.requires.2.shared

pub loop-j-init : goal.loop-j-init
loop-j-init c = placed-none _ _ _ _ _ _ _

pub overflow_mul-word : goal.overflow_mul-word
overflow_mul-word c =
    let l = c.loop-j in
    omega (arith, l.invariant.few, pow_mono {i = l.j} {j = 4} (omega arith))

pub overflow_add-r : goal.overflow_add-r
overflow_add-r c = omega (arith, c.loop-j-test.true, c.requires.1)

pub place_digit-requires : goal.place_digit-requires
place_digit-requires c =
    let b = c.args in
    let l = c.loop-j in
    let j = l.j in
    let same = c.kind_of-kind.ensures ∙ sym (one-kind b.row c.requires.2.shared b.set b.r j c.requires.0 c.requires.2.column c.loop-j-test.true) in
    let now = placed-now _ _ _ _ _ _ _ j l.word l.next l.invariant c.loop-j-test.true in
    let rely = c.requires.2.rely j c.loop-j-test.true in (
      c.requires.2.shared,
      c.requires.2.quarters,
      l.invariant.kept ∙ c.requires.2.four,
      c.loop-j-test.true,
      λ e. word-within b.row b.set (b.r + j) (sym same ∙ e),
      rw now rely.0,
      λ e. rw now (rely.1 (rw same at e)),
    )

pub overflow_add-word : goal.overflow_add-word
overflow_add-word c =
    let l = c.loop-j in
    omega (arith, l.invariant.few, c.place_digit.ensures.binary, pow_mono {i = l.j} {j = 4} (omega arith))

pub loop-j-preserved : goal.loop-j-preserved
loop-j-preserved c =
    let b = c.args in
    let l = c.loop-j in
    let same = c.kind_of-kind.ensures ∙ sym (one-kind b.row c.requires.2.shared b.set b.r l.j c.requires.0 c.requires.2.column c.loop-j-test.true) in
    placed-more _ _ _ _ _ _ _ l.j l.word l.next l.invariant c.loop-j-test.true _ _ (rw same at c.place_digit.ensures)

pub returns : goal.returns
returns c =
    let l = c.loop-j in
    let end : l.j ≡ 4 = omega arith in
    rw (← end) l.invariant
