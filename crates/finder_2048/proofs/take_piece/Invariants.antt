-- `take_piece` is `run_from` over the piece's digits: what is left to do is what was to do (proofs/Runs.antt, `Going`).
use Prim.Native.Nat.{◌-◌}
use Rattle.finder_2048.proofs.Runs.{Going}
use Rattle.finder_2048.proofs.take_piece.Given as goal

abbrev pub invariant-loop-p : goal.invariant-loop-p
invariant-loop-p l = Going l.piece l.first l.count l.end l.initial.c l.c l.p

abbrev pub decreases-loop-p : goal.decreases-loop-p
decreases-loop-p l = l.end - l.p
