-- `list_byte`: eight places, or a byte that is equal.
use Rattle.differing.specs.Counting.{Listed}
use Rattle.differing.proofs.entries.list_byte.Given as goal

abbrev pub invariant-loop-p : goal.invariant-loop-p
invariant-loop-p l = Listed l.row l.one l.other l.p l.all l.places
