-- After f turns the first f bytes of the column are taken (Columns).
use Rattle.multiframe.specs.Steps.{ColumnTaken}
use Rattle.multiframe.proofs.take_column.Given as goal

abbrev pub invariant-loop-f : goal.invariant-loop-f
invariant-loop-f l = ColumnTaken l.multiframe l.first l.f l.column
