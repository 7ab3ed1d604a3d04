-- `counted_on`: what is counted and what is listed are the answer.
use native.Mathlib.Omega.{arith}
use mathlib.Core.Path.{refl}
use Prim.Native.Nat.{◌*◌}
use lib.ListN.{length}
use Rattle.differing.proofs.Walking.{finished}
use Rattle.differing.proofs.SumsByKind.{sums-few, whole-counted}
use Rattle.differing.proofs.counted_on.Goals as goal

pub list_lines-requires : goal.list_lines-requires
list_lines-requires c = (c.requires, refl)

pub count_frames-requires : goal.count_frames-requires
count_frames-requires c = (c.requires, refl)

pub total-all-requires : goal.total-all-requires
total-all-requires c = sums-few _ _ _ (8 * length c.args.one.now) _ (omega (arith, c.requires.short)) c.count_frames.ensures

pub returns : goal.returns
returns c = finished _ _ _ _ _ _ _ (whole-counted _ _ _ c.requires _ _ _ c.count_frames.ensures c.total-all.ensures c.list_lines.ensures) c.min.ensures
