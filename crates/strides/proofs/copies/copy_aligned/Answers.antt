-- `copy_aligned`: three parts, one after the other (proofs/Putting.antt).
use Prim.Native.Nat.{◌+◌, ◌-◌, ◌*◌, ◌/◌}
use native.Mathlib.Omega.{arith}
use Rattle.strides.proofs.Putting.{puts-three}
use Rattle.strides.proofs.copies.copy_aligned.Goals as goal

pub returns : goal.returns
returns c =
    let first = c.args.first in
    let n = (c.args.end - first) / 32 in
    let from = first + 32 * n in
    let m = (c.args.end - from) / 8 in
    puts-three c.args.piece.now _ _ _ _ (8 * c.args.at) first from (from + 8 * m) c.args.end (8 * (c.args.at + 4 * n)) (8 * (c.args.at + 4 * n + m))
    (omega arith) (omega arith) (omega (arith, c.requires.0)) c.requires.1 (omega arith) (omega arith) c.copy_words.ensures c.copy_bytes.ensures
    c.copy_digits.ensures
