-- `more`: each number has room for one more in each group.
use native.Mathlib.Omega.{arith}
use Prim.Native.Nat.{◌/◌, ◌^◌}
use lib.Bits.{and_le_r}
use Rattle.masks.specs.Masks.{EVERY}
use Rattle.masks.proofs.more.Goals as goal

pub overflow_add-result : goal.overflow_add-result
overflow_add-result c = omega (arith, c.requires.0, and_le_r (c.args.x / 2 ^ 3) EVERY)

pub overflow_add-result-2 : goal.overflow_add-result-2
overflow_add-result-2 c = omega (arith, c.requires.1, and_le_r (c.args.x / 2 ^ 2) EVERY)

pub overflow_add-result-3 : goal.overflow_add-result-3
overflow_add-result-3 c = omega (arith, c.requires.2, and_le_r (c.args.x / 2 ^ 1) EVERY)

pub overflow_add-result-4 : goal.overflow_add-result-4
overflow_add-result-4 c = omega (arith, c.requires.3, and_le_r (c.args.x / 2 ^ 0) EVERY)
