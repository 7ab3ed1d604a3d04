-- `receive_set` hands out what its head does, then its run.
use Prim.Native.Nat.{ℕ, ◌+◌, ◌-◌, ◌/◌}
use native.Mathlib.Omega.{arith}
use lib.ListN.{length-append}
use Rattle.digits.specs.Digits.{digits_of}
use Rattle.levels.specs.Places.{head_end}
use Rattle.levels.proofs.Runs.{head-end-in, head-end-short}
use Rattle.levels.specs.Order.{acts_by}
use Rattle.unweave.specs.Lanes.{run_digits, head_digits}
use Rattle.unweave.proofs.Four.{roomy-less, roomy_after, grown-more}
use Rattle.unweave.proofs.Runs.{picked-length, set-short}
use Rattle.unweave.proofs.receive_set.Goals as goal

pub receive_head-v-requires : goal.receive_head-v-requires
receive_head-v-requires c =
    let ds = digits_of c.args.line.now in
    let acts = acts_by c.args.row c.args.preceding c.args.note in
    let end = head_end c.args.row c.args.s in
    let run = (c.args.row.set - end) / 4 in (
      c.requires.0,
      c.requires.1,
      c.requires.2,
      c.requires.3,
      roomy-less _ c.requires.4
          (λ j h. omega (arith, length-append (head_digits c.args.row ds c.args.p c.args.s acts j) (run_digits ds (c.args.p + end) run j))),
    )

pub overflow_add-p : goal.overflow_add-p
overflow_add-p c =
    omega (arith, c.head_end-end.ensures, c.requires.2, head-end-short c.args.row c.requires.0 c.args.s)

pub overflow_sub-row : goal.overflow_sub-row
overflow_sub-row c =
    rw c.head_end-end.ensures (head-end-in c.args.row c.requires.0 c.args.s)

pub receive_columns-requires : goal.receive_columns-requires
receive_columns-requires c =
    let ds = digits_of c.args.line.now in
    let end = head_end c.args.row c.args.s in
    let head = head_digits c.args.row ds c.args.p c.args.s (acts_by c.args.row c.args.preceding c.args.note) in
    let run = (c.args.row.set - end) / 4 in
    rw c.head_end-end.ensures (record {
      inside = omega (arith, c.requires.1, head-end-in c.args.row c.requires.0 c.args.s);
      small = omega (arith, c.requires.2, head-end-in c.args.row c.requires.0 c.args.s, set-short c.args.row c.requires.0);
      quarters = omega (arith, c.requires.3, c.receive_head-v.auto.buffer);
      roomy = roomy_after (λ (j : ℕ). run) c.receive_head-v.ensures c.requires.4
          (λ j h. omega (arith, length-append (head j) (run_digits ds (c.args.p + end) run j), picked-length run ds (c.args.p + end + j)));
    })

pub returns : goal.returns
returns c =
    grown-more c.receive_head-v.ensures (rw c.head_end-end.ensures at c.receive_columns.ensures)
