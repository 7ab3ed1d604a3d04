-- `eight_at`: shifted down, and cut off above.
use Prim.Native.Nat.{◌/◌, ◌^◌}
use lib.Bits.{and_mask, mask_lt}
use Rattle.weave.proofs.eight_at.Goals as goal

pub returns : goal.returns
returns c = let n = c.args.x / 2 ^ c.args.k in (and_mask n 8, mask_lt n 8)
