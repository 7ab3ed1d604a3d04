-- `changes_of` is `changes_of`. The invariant: the changes of the frames so far.
use mathlib.Core.Path.{◌≡◌, refl}
use mathlib.Core.Bool.{cond}
use Prim.Native.Nat.{suc, ◌+◌, ◌-◌}
use native.Mathlib.Omega.{arith}
use lib.Dec.{eqb}
use lib.ListN.{length}
use Rattle.digits.specs.Sums.{sum_to}
use Rattle.judge.specs.Verdict.{decided, changes_of}
use Rattle.judge.proofs.changes.changes_of.Goals as goal

pub loop-f-init : goal.loop-f-init
unfolding sum_to
loop-f-init c = (omega arith, refl, omega arith)

pub loop-f-preserved : goal.loop-f-preserved
unfolding sum_to
loop-f-preserved c =
    let l = c.loop-f in
    let a = c.args in
    let k = l.f - 1 in
    let here : l.f ≡ suc k = omega arith in
    let back : suc k - 1 ≡ k = omega arith in
    let one : c.change_at-changes.result ≡ cond (eqb (decided a.notes.now a.j (suc k)) (decided a.notes.now a.j k)) 0 1 = rw (here, back) at c.change_at-changes.ensures.0 in
    let next : l.f + 1 - 1 ≡ suc k = omega arith in
    (omega arith, rw next (omega (arith, one, l.invariant.1)), omega arith)

pub returns : goal.returns
unfolding changes_of
returns c =
    let l = c.loop-f in
    let end : l.f - 1 ≡ length c.args.notes.now - 1 = omega arith in
    rw (← end) l.invariant.1
