-- `group_sum`: pairs, and their sum by a remainder.
use native.Mathlib.Omega.{arith}
use Prim.Native.Nat.{◌/◌}
use lib.Bits.{and_le_r}
use Rattle.masks.proofs.Groups.{group-total, total-most}
use Rattle.masks.proofs.group_sum.Goals as goal

pub overflow_add-result : goal.overflow_add-result
overflow_add-result c =
    let y = c.args.y in
    omega (arith, and_le_r y 4238682002231055, and_le_r (y / 16) 4238682002231055)

pub returns : goal.returns
returns c =
    let y = c.args.y in
    (group-total y, omega (arith, group-total y, total-most y))
