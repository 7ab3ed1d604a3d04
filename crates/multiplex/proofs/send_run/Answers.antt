-- `send_run`: the four parts that are lent are the quarters.
use Prim.Native.Nat.{◌*◌, ◌/◌}
use native.Mathlib.Omega.{arith}
use lib.ListN.{length}
use Rattle.multiplex.proofs.Running.{part-is, has_parts, ran-parts}
use Rattle.multiplex.proofs.send_run.Goals as goal

pub send_columns-requires : goal.send_columns-requires
send_columns-requires c =
    let b = c.args in
    let buf = b.buffer.now in
    let q = length buf / 4 in
    let pre = c.requires in (
      pre.0,
      pre.1,
      pre.2,
      has_parts buf _ _ _ _ (part-is buf 0 q 0 (omega arith) (omega arith)) (part-is buf q (2 * q) 1 (omega arith) (omega arith))
          (part-is buf (2 * q) (3 * q) 2 (omega arith) (omega arith)) (part-is buf (3 * q) (4 * q) 3 (omega arith) (omega arith)) b.next.now _ pre.4,
    )

pub returns : goal.returns
returns c =
    let send-columns = c.send_columns in
    let b = c.args in
    let buf = b.buffer.now in
    let q = length buf / 4 in
    ran-parts buf _ _ _ _ (part-is buf 0 q 0 (omega arith) (omega arith)) (part-is buf q (2 * q) 1 (omega arith) (omega arith))
    (part-is buf (2 * q) (3 * q) 2 (omega arith) (omega arith)) (part-is buf (3 * q) (4 * q) 3 (omega arith) (omega arith)) b.next.now _ _ _ _ _ send-columns.ensures
