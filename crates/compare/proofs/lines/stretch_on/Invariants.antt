-- `stretch_on`: place after place, from none to all of them.
use Rattle.compare.specs.Summing.{Summed}
use Rattle.compare.proofs.lines.stretch_on.Given as goal

abbrev pub invariant-loop-p : goal.invariant-loop-p
invariant-loop-p l = Summed l.row l.one l.other l.first l.p l.all l.sums
