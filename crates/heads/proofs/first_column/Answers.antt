-- `first_column`: the places so far, of which none carries a digit (Placing).
use mathlib.Core.Path.{◌≡◌, sym, ◌∙◌}
use Prim.Native.Nat.{◌+◌}
use native.Mathlib.Omega.{arith}
use lib.Pow.{pow_mono}
use Rattle.digits.proofs.Windows.{window_more}
use Rattle.levels.specs.declared.order.Action.{Action}
use Rattle.levels.specs.Places.{head_end}
use Rattle.levels.proofs.Runs.{head-end-short}
use Rattle.levels.proofs.Line.{word-within}
use Rattle.heads.proofs.Placing.{placed-idle, placed-none, placed-more, first-idle}
use Rattle.heads.proofs.first_column.Goals as goal

pub loop-j-init : goal.loop-j-init
loop-j-init c = (omega arith, λ acts buffer next. placed-none _ _ acts 0 _ buffer next)

pub overflow_add-place : goal.overflow_add-place
unfolding head_end
overflow_add-place c =
    omega (arith, c.loop-j-test.true, c.requires.1, head-end-short _ c.requires.0 0)

pub kind_of-kind-requires : goal.kind_of-kind-requires
kind_of-kind-requires c = c.requires.0

pub overflow_mul-word : goal.overflow_mul-word
overflow_mul-word c =
    let l = c.loop-j in
    omega (arith, l.invariant.0, pow_mono {i = l.j} {j = 4} (omega arith))

pub idle_digit-requires : goal.idle_digit-requires
idle_digit-requires c = (c.requires.0, c.loop-j-test.true, λ e. word-within _ 0 _ (sym c.kind_of-kind.ensures ∙ e))

pub overflow_add-word : goal.overflow_add-word
overflow_add-word c =
    let l = c.loop-j in
    omega (arith, l.invariant.0, c.idle_digit.ensures.1, pow_mono {i = l.j} {j = 4} (omega arith))

pub loop-j-preserved : goal.loop-j-preserved
loop-j-preserved c =
    let row = c.args.row in
    let r = c.args.r in
    let l = c.loop-j in
    let d = c.idle_digit.ensures in
    let idle = rw c.kind_of-kind.ensures at d.0 in
    let none : (act : Action) → _ = first-idle row c.requires.0 (r + l.j) (omega (arith, c.loop-j-test.true, c.requires.1)) in (
      window_more l.j l.word _ l.invariant.0 d.1,
      λ acts buffer next.
          placed-more row c.args.note acts 0 r buffer next l.j l.word next (l.invariant.1 acts buffer next) c.loop-j-test.true _ next
          (placed-idle row c.args.note (acts l.j) _ l.j (r + l.j) buffer next _ (none (acts l.j)) idle d.1),
    )

pub returns : goal.returns
returns c acts buffer next =
    let l = c.loop-j in
    let end : l.j ≡ 4 = omega arith in
    rw (← end) (l.invariant.1 acts buffer next)
