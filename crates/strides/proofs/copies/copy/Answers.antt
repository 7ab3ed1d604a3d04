-- `copy`: two parts, the second from the start of a byte on (proofs/Putting.antt).
use Prim.Native.Nat.{◌+◌, ◌*◌, ◌/◌}
use native.Mathlib.Omega.{arith}
use Rattle.strides.proofs.Putting.{puts-join, puts_whole, byte_next}
use Rattle.strides.proofs.copies.copy.Goals as goal

pub returns-then-from-end : goal.returns-then-from-end
returns-then-from-end c =
    let n = c.min in
    puts-join c.args.piece.now _ c.args.to c.args.first (c.args.first + n.result) c.args.end (8 * ((c.args.to + 7) / 8)) _ _ (omega arith)
    (omega (arith, c.if-from-end.true)) c.requires.1 (byte_next c.args.to c.args.first c.args.end n.result n.ensures c.if-from-end.true)
    c.copy_digits.ensures c.copy_aligned.ensures

pub returns-else-from-end : goal.returns-else-from-end
returns-else-from-end c =
    let n = c.min in
    puts_whole c.args.piece.now _ _ c.args.to c.args.first _ c.args.end c.copy_digits.ensures
    (omega (arith, c.if-from-end.false, n.ensures, c.requires.0))
