-- `repair_frame`: set after set, from the frame's first place to the next frame's.
use Prim.Native.Nat.{◌+◌, ◌*◌}
use Rattle.repair.specs.Mending.{Onward}
use Rattle.repair.proofs.repair_frame.Given as goal

abbrev pub invariant-loop-s : goal.invariant-loop-s
invariant-loop-s l = Onward l.row l.rule.national l.f l.rule.preceding l.rule.note (l.f * l.row.digits) (l.f * l.row.digits + l.s * l.row.set) l.initial.line l.initial.sums l.line l.sums
