-- `good_blocks`: block after block.
use mathlib.Core.Path.{◌≡◌}
use mathlib.Core.Bool.{true}
use Rattle.verdict_blocks.specs.Keeping.{block_at}
use Rattle.verdict_states.specs.States.{good_blocks}
use Rattle.verdict_states.proofs.validity.good_blocks.Given as goal

abbrev pub invariant-loop-b : goal.invariant-loop-b
invariant-loop-b l = good_blocks l.pattern (block_at l.state) l.b ≡ true
