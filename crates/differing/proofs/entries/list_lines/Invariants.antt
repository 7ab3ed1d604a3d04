-- `list_lines`: block after block, from nothing to all bytes, or until the list is full.
use Prim.Native.Nat.{◌-◌, ◌*◌, ◌≤◌}
use lib.ListN.{length}
use Rattle.differing.specs.Counting.{Listed}
use Rattle.differing.proofs.entries.list_lines.Given as goal

abbrev pub invariant-loop-from : goal.invariant-loop-from
invariant-loop-from l = (l.from ≤ length l.one) × Listed l.row l.one l.other (8 * l.from) l.all l.places

abbrev pub decreases-loop-from : goal.decreases-loop-from
decreases-loop-from l = length l.one - l.from
