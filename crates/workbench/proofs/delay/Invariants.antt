-- After f turns the first f notes are delayed, and the rest are as they were (Delaying).
use Rattle.workbench.proofs.Delaying.{Delaying}
use Rattle.workbench.proofs.delay.Given as goal

abbrev pub invariant-loop-f : goal.invariant-loop-f
invariant-loop-f l = Delaying l.before l.notes l.initial.late l.f l.last l.late
