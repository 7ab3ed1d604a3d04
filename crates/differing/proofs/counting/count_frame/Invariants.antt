-- `count_frame`: set after set.
use Prim.Native.Nat.{◌+◌, ◌*◌}
use Rattle.differing.specs.Counting.{SumsTo}
use Rattle.differing.proofs.counting.count_frame.Given as goal

abbrev pub invariant-loop-s : goal.invariant-loop-s
invariant-loop-s l = SumsTo l.row l.one l.other (l.f * l.row.digits + l.s * l.row.set) l.sums
