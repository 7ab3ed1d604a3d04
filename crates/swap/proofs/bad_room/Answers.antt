-- `bad_room` is `bad_room`: F·n is small, since F is at most 64.
use mathlib.Core.Path.{sym, ◌∙◌}
use Prim.Native.Nat.{◌*◌, ◌/◌}
use native.Mathlib.Omega.{arith}
use borrow.Author.Tests.{le-ltb, lt-leb}
use Rattle.levels.proofs.Judged.{room_small}
use Rattle.swap.proofs.bad_room.Goals as goal

pub returns-else-buffer-le8191 : goal.returns-else-buffer-le8191
returns-else-buffer-le8191 c =
    let few = room_small c.args.row c.requires.0 (c.args.line / c.args.row.bytes) c.requires.1 in
    lt-leb _ _ c.if-buffer-le8191.false ∙ sym (le-ltb (8 * c.args.buffer) (c.args.line / c.args.row.bytes * c.args.row.room) (omega (arith, c.if-buffer-le8191.false, few)))

pub overflow_mul-result-then-buffer-le8191 : goal.overflow_mul-result-then-buffer-le8191
overflow_mul-result-then-buffer-le8191 c =
    omega (arith, room_small c.args.row c.requires.0 _ c.requires.1)
