-- After f turns the first f bytes of the column are put (Columns).
use mathlib.Core.Path.{◌≡◌}
use lib.ListN.{length}
use Rattle.multiframe.specs.Steps.{ColumnPut}
use Rattle.multiframe.proofs.put_column.Given as goal

abbrev pub invariant-loop-f : goal.invariant-loop-f
invariant-loop-f l = (length l.multiframe ≡ length l.initial.multiframe) × ColumnPut l.initial.multiframe l.first l.column l.f l.multiframe
