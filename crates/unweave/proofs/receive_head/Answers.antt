-- `receive_head` hands out the columns behind the control digits where the set is the last, and nothing where it is another: the invariant is
-- `Heading`, of the columns handed out so far.
use native.Mathlib.Omega.{arith}
use Rattle.digits.specs.Digits.{digits_of}
use Rattle.levels.specs.Order.{acts_by}
use Rattle.unweave.specs.Lanes.{head_digits}
use Rattle.unweave.proofs.Four.{grown-as, grown-none}
use Rattle.unweave.proofs.Runs.{head-none, heading-none, heading-more, heading-room, heading-all}
use Rattle.unweave.proofs.receive_head.Goals as goal

pub returns-then-s-row : goal.returns-then-s-row
returns-then-s-row c =
    let ds = digits_of c.args.line.now in
    let acts = acts_by c.args.row c.args.preceding c.args.note in
    grown-as (head_digits c.args.row ds c.args.p c.args.s acts)
    (grown-none c.args.q c.args.buffer.now c.args.w0 (λ j h. (c.requires.4 j h).ready))
    (λ j h. head-none c.args.row ds c.args.p c.args.s acts c.if-s-row.true j)

pub loop-r-init : goal.loop-r-init
loop-r-init c =
    heading-none _ _ _ _ _ _ _ _ c.requires.0.last_least (λ j h. (c.requires.4 j h).ready)

pub kind_of-kind-requires : goal.kind_of-kind-requires
kind_of-kind-requires c = c.requires.0

pub overflow_add-p : goal.overflow_add-p
overflow_add-p c =
    omega (arith, c.loop-r.invariant.to, c.requires.2, c.requires.0.last_most)

pub receive_column-w-requires : goal.receive_column-w-requires
receive_column-w-requires c =
    let so_far = c.loop-r.invariant in
    rw c.kind_of-kind.ensures (
      omega (arith, so_far.to, so_far.fours, c.loop-r-test.true, c.requires.0.last_fours, c.requires.0.last_room, c.requires.1),
      omega (arith, so_far.to, c.requires.0.last_most, c.requires.2),
      omega (arith, so_far.kept, c.requires.3),
      heading-room _ _ _ _ _ _ _ _ so_far c.requires.0 c.if-s-row.false c.loop-r-test.true c.requires.4,
    )

pub overflow_add-r-in-loop-r : goal.overflow_add-r-in-loop-r
overflow_add-r-in-loop-r c =
    omega (arith, c.loop-r.invariant.to, c.requires.0.last_most)

pub loop-r-smaller : goal.loop-r-smaller
loop-r-smaller c = omega (arith, c.loop-r-test.true)

pub loop-r-preserved : goal.loop-r-preserved
loop-r-preserved c =
    heading-more _ _ _ _ _ _ _ _ c.loop-r.invariant c.loop-r-test.true c.requires.0.last_fours c.receive_column-w.auto.buffer
    (rw c.kind_of-kind.ensures at c.receive_column-w.ensures)

pub shape_of-buffer : goal.shape_of-buffer
shape_of-buffer c = c.loop-r.invariant.kept

pub returns : goal.returns
returns c =
    heading-all _ _ _ _ _ _ _ _ c.loop-r.invariant c.requires.0 c.if-s-row.false (omega (arith, c.loop-r.invariant.to, c.loop-r-test.false))
