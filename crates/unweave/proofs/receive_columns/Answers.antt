-- `receive_columns` hands out up to 32 columns a turn: the invariant is `Receiving`, of the columns handed out so far.
use Prim.Native.Nat.{◌+◌, ◌*◌, ◌≤◌}
use native.Mathlib.Omega.{arith}
use Rattle.digits.specs.Digits.{digits_of}
use Rattle.unweave.specs.Lanes.{run_digits}
use Rattle.unweave.proofs.Four.{grown-as}
use Rattle.unweave.proofs.Runs.{receiving-none, receiving-more, receiving-room, receiving-all}
use Rattle.unweave.proofs.receive_columns.Goals as goal

pub loop-k-init : goal.loop-k-init
loop-k-init c = receiving-none _ _ _ _ _ _ c.requires.roomy

pub overflow_sub-columns : goal.overflow_sub-columns
overflow_sub-columns c = omega (arith, c.loop-k.invariant.to)

pub overflow_mul-k : goal.overflow_mul-k
overflow_mul-k c =
    omega (arith, c.loop-k.invariant.to, c.requires.small)

pub overflow_add-p : goal.overflow_add-p
overflow_add-p c =
    omega (arith, c.loop-k.invariant.to, c.requires.small)

pub columns_at-x-requires : goal.columns_at-x-requires
columns_at-x-requires c =
    let to = c.loop-k.invariant.to in
    let n = c.min-n.ensures in
    (omega (arith, n, to, c.requires.inside), omega (arith, n, to, c.requires.small), omega (arith, n, c.loop-k-test.true), omega (arith, n))

pub put_four-w-requires : goal.put_four-w-requires
put_four-w-requires c =
    let n = c.min-n.ensures in
    let so_far = c.loop-k.invariant in
    (omega (arith, so_far.kept, c.requires.quarters), omega (arith, n), c.columns_at-x.ensures.below, receiving-room so_far _ (omega (arith, n)) c.requires.roomy)

pub overflow_add-k : goal.overflow_add-k
overflow_add-k c =
    omega (arith, c.min-n.ensures, c.loop-k.invariant.to, c.requires.small)

pub loop-k-smaller : goal.loop-k-smaller
loop-k-smaller c =
    omega (arith, c.min-n.ensures, c.loop-k-test.true)

pub loop-k-preserved : goal.loop-k-preserved
loop-k-preserved c =
    let n = c.min-n.result in
    let so_far = c.loop-k.invariant in
    let more : c.loop-k.k + n ≤ c.args.columns = omega (arith, so_far.to, c.min-n.ensures) in
    let run = run_digits (digits_of c.args.line.now) (c.args.p + 4 * c.loop-k.k) n in
    receiving-more so_far n more c.put_four-w.auto.buffer (grown-as run c.put_four-w.ensures c.columns_at-x.ensures.digits)

pub shape_of-buffer : goal.shape_of-buffer
shape_of-buffer c = c.loop-k.invariant.kept

pub returns : goal.returns
returns c =
    receiving-all c.loop-k.invariant (omega (arith, c.loop-k.invariant.to, c.loop-k-test.false))
