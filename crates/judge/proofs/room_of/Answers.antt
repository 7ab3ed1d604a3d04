-- `room_of`: F frames carry at most 47,360 digits of a tributary.
use native.Mathlib.Omega.{arith}
use Rattle.levels.proofs.Judged.{room_small}
use Rattle.judge.proofs.room_of.Goals as goal

pub overflow_mul-result : goal.overflow_mul-result
overflow_mul-result c = omega (arith, room_small c.args.row c.requires.0 c.args.frames c.requires.1)

pub overflow_add-result : goal.overflow_add-result
overflow_add-result c = omega (arith, room_small c.args.row c.requires.0 c.args.frames c.requires.1)

pub overflow_mul-result-2 : goal.overflow_mul-result-2
overflow_mul-result-2 c = omega (arith, room_small c.args.row c.requires.0 c.args.frames c.requires.1)

pub returns : goal.returns
returns c = let small = room_small c.args.row c.requires.0 c.args.frames c.requires.1 in (omega (arith, small), omega arith, omega arith)
