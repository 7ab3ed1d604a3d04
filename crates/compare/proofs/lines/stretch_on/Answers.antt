-- `stretch_on`: place after place, from none to all of them.
use native.Mathlib.Omega.{arith}
use mathlib.Core.Path.{◌≡◌, refl}
use Prim.Native.Nat.{◌+◌}
use Rattle.compare.specs.Lines.{stretch_on}
use Rattle.compare.proofs.TwoLines.{summed-none}
use Rattle.compare.proofs.lines.stretch_on.Goals as goal

pub loop-p-init : goal.loop-p-init
loop-p-init c = summed-none _ _ _ _ _ (omega arith)

pub returns : goal.returns
unfolding stretch_on
returns c =
    let l = c.loop-p in
    let e : c.args.first + c.args.count ≡ l.p = omega arith in
    let s = l.invariant in
    rw (e, ← s.the_all, ← s.the_sums) refl
