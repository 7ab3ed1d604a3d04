-- `aligned`: so many of the records before this one are aligned.
use mathlib.Core.Path.{◌≡◌}
use Rattle.rack.specs.Rack.{aligned_of}
use Rattle.rack.proofs.aligned.Given as goal

abbrev pub invariant-loop-record : goal.invariant-loop-record
invariant-loop-record l = l.n ≡ aligned_of l.records l.record-index
