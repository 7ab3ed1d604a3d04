-- `count_frames`: frame after frame, from none to all.
use Prim.Native.Nat.{◌*◌}
use Rattle.differing.specs.Counting.{SumsTo}
use Rattle.differing.proofs.counting.count_frames.Given as goal

abbrev pub invariant-loop-f : goal.invariant-loop-f
invariant-loop-f l = SumsTo l.row l.one l.other (l.f * l.row.digits) l.sums
