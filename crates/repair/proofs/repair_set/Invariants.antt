-- `repair_set`: place after place of the head, and behind it nothing is to be done.
use Prim.Native.Nat.{◌+◌, ◌*◌}
use Rattle.repair.specs.Mending.{Onward}
use Rattle.repair.proofs.repair_set.Given as goal

abbrev pub invariant-loop-r : goal.invariant-loop-r
invariant-loop-r l =
    Onward l.row l.rule.national l.f l.rule.preceding l.rule.note (l.f * l.row.digits + l.s * l.row.set) (l.f * l.row.digits + (l.s * l.row.set + l.r)) l.initial.line l.initial.sums l.line l.sums
