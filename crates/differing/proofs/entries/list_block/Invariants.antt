-- `list_block`: byte after byte, nothing of a block that is equal, and nothing once the list is full.
use Prim.Native.Nat.{◌*◌}
use Rattle.differing.specs.Counting.{Listed}
use Rattle.differing.proofs.entries.list_block.Given as goal

abbrev pub invariant-loop-i : goal.invariant-loop-i
invariant-loop-i l = Listed l.row l.one l.other (8 * l.i) l.all l.places
