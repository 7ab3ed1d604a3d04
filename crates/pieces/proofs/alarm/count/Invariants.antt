-- `count` is `counted`: stretch by stretch, as far as each has room (proofs/Counts.antt, `Cut`).
use Prim.Native.Nat.{◌-◌}
use Rattle.pieces.proofs.Counts.{Cut}
use Rattle.pieces.proofs.alarm.count.Given as goal

abbrev pub invariant-loop-p : goal.invariant-loop-p
invariant-loop-p l = Cut l.row l.piece l.first l.end l.initial.s l.s l.p

abbrev pub decreases-loop-p : goal.decreases-loop-p
decreases-loop-p l = l.end - l.p
