-- `send_wide`: the columns so far, a multiple of 32.
use mathlib.Core.Path.{◌≡◌}
use Prim.Native.Nat.{◌+◌, ◌≤◌}
use native.Mathlib.Omega.{arith}
use Rattle.weave.proofs.Weaving.{weaving-start, weaving-more, has_on}
use Rattle.weave.proofs.send_wide.Goals as goal

pub loop-k-init : goal.loop-k-init
loop-k-init c = (omega arith, weaving-start _ _ _ _ _ _ _ _ c.requires.1)

pub moved_on-requires : goal.moved_on-requires
moved_on-requires c =
    let pre = c.requires in
    let small = pre.4.small in
    (omega (arith, c.loop-k-test.true), omega (arith, c.loop-k-test.true), omega (arith, c.loop-k-test.true), omega (arith, c.loop-k-test.true))

pub send_many-w-requires : goal.send_many-w-requires
send_many-w-requires c =
    let test = c.loop-k-test in
    let pre = c.requires in
    let l = c.loop-k in
    let b = c.args in
    let more : l.k + 32 ≤ b.columns = omega (arith, test.true, l.invariant.0, pre.3) in (
      pre.0,
      l.invariant.1.done.ready,
      omega (arith, l.invariant.1.done.place, l.invariant.1.kept, pre.2),
      has_on b.a.now b.b.now b.c.now b.d.now b.i b.columns l.k 32 _ pre.4 more c.moved_on.ensures,
    )

pub loop-k-smaller : goal.loop-k-smaller
loop-k-smaller c =
    let test = c.loop-k-test in
    let l = c.loop-k in
    let pre = c.requires in
    omega (arith, test.true, l.invariant.0, pre.3)

pub loop-k-preserved : goal.loop-k-preserved
loop-k-preserved c =
    let b = c.args in
    let test = c.loop-k-test in
    let pre = c.requires in
    let send-many = c.send_many-w in
    let moved_on = c.moved_on in
    let l = c.loop-k in
    let more : l.k + 32 ≤ b.columns = omega (arith, test.true, l.invariant.0, pre.3) in
    (omega (arith, l.invariant.0), weaving-more _ _ _ _ _ _ _ _ l.line l.w l.k 32 _ _ _ l.invariant.1 more send-many.auto.line moved_on.ensures send-many.ensures)

pub shape_of-line : goal.shape_of-line
shape_of-line c = c.loop-k.invariant.1.kept

pub returns : goal.returns
returns c =
    let l = c.loop-k in
    let end : l.k ≡ c.args.columns = omega (arith, l.invariant.1.to, c.loop-k-test.false) in
    rw (← end) l.invariant.1.done

pub returns-2 : goal.returns-2
returns-2 c =
    let l = c.loop-k in
    let end : l.k + 32 ≡ c.args.columns = omega (arith, l.invariant.0, c.loop-k-test.true, c.requires.3) in
    let done = weaving-more _ _ _ _ _ _ _ _ l.line l.w l.k 32 _ _ _ l.invariant.1 (omega arith) c.send_many-w.auto.line c.moved_on.ensures c.send_many-w.ensures in
    rw end at done.done
