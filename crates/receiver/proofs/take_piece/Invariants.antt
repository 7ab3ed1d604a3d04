-- `take_piece` is `run_of` over the piece's digits: what is left to do is what was to do (proofs/Runs.antt, `Going`).
use Prim.Native.Nat.{◌-◌}
use Rattle.receiver.proofs.Runs.{Going}
use Rattle.receiver.proofs.take_piece.Given as goal

abbrev pub invariant-loop-p : goal.invariant-loop-p
invariant-loop-p l = Going l.row l.piece l.first l.count l.end l.s.level l.st l.initial.c l.initial.f l.c l.f l.words l.p

abbrev pub decreases-loop-p : goal.decreases-loop-p
decreases-loop-p l = l.end - l.p
