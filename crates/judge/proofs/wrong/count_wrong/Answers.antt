-- `count_wrong` counts up to 32 digits a turn. The invariant: the count so far, which is no more than the digits behind it.
use mathlib.Core.Path.{◌≡◌, refl}
use Prim.Native.Nat.{◌+◌, min}
use native.Mathlib.Omega.{arith}
use Rattle.digits.specs.Sums.{sum_to}
use Rattle.judge.specs.Counting.{wrong_among}
use Rattle.judge.proofs.wrong.count_wrong.Goals as goal

pub loop-p-init : goal.loop-p-init
unfolding wrong_among sum_to
loop-p-init c = let none : min 0 c.args.n ≡ 0 = omega arith in rw none (refl, omega arith)

pub wrong_at-wrong-requires : goal.wrong_at-wrong-requires
wrong_at-wrong-requires c =
    let pre = c.requires in
    (pre.0, λ e. omega (arith, pre.1 e), omega arith, omega arith, omega arith, omega arith)

pub loop-p-preserved : goal.loop-p-preserved
loop-p-preserved c =
    let l = c.loop-p in
    let n = c.args.n in
    let here : min l.p n ≡ l.p = omega arith in
    let next : min (l.p + 32) n ≡ l.p + c.min.result = omega arith in
    rw next (omega (arith, c.wrong_at-wrong.ensures.0, rw here at l.invariant.0), omega arith)

pub returns : goal.returns
returns c =
    let l = c.loop-p in
    let end : min l.p c.args.n ≡ c.args.n = omega arith in
    rw (← end) l.invariant.0

pub returns-2 : goal.returns-2
returns-2 c =
    let l = c.loop-p in
    let n = c.args.n in
    let here : min l.p n ≡ l.p = omega arith in
    let next : l.p + c.min.result ≡ n = omega arith in
    rw (← next) (omega (arith, c.wrong_at-wrong.ensures.0, rw here at l.invariant.0))
