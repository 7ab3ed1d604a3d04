-- `row_of` cuts sixteen digits out of a word.
use Prim.Native.Nat.{◌*◌, ◌-◌, ◌/◌, ◌^◌}
use lib.Bits.{and_mask, mask_lt}
use Rattle.unweave.proofs.sorting.row_of.Goals as goal

pub returns : goal.returns
returns c =
    let rest = c.args.rows / 2 ^ (16 * (3 - c.args.j)) in
    (and_mask rest 16, mask_lt rest 16)
