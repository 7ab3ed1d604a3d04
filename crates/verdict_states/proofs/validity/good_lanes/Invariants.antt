-- `good_lanes`: lane after lane.
use mathlib.Core.Path.{◌≡◌}
use mathlib.Core.Bool.{true}
use Rattle.verdict_states.specs.States.{good_lanes}
use Rattle.verdict_states.proofs.validity.good_lanes.Given as goal

abbrev pub invariant-loop-k : goal.invariant-loop-k
invariant-loop-k l = good_lanes l.v l.k ≡ true
