-- `put_blocks`: block after block.
use mathlib.Core.Path.{◌≡◌}
use mathlib.Core.List.{◌++◌}
use Prim.Native.Nat.{ℕ, ◌+◌, ◌*◌}
use lib.ListN.{length, take}
use Rattle.verdict_blocks.specs.Blocks.{fresh_block}
use Rattle.verdict_states.specs.States.{blocks_numbers}
use Rattle.verdict_states.proofs.fresh.put_blocks.Given as goal

abbrev pub invariant-loop-b : goal.invariant-loop-b
invariant-loop-b l = (length l.state ≡ 683) × (take (11 + 42 * l.b) l.state ≡ take 11 l.initial.state ++ blocks_numbers l.b (λ (k : ℕ). fresh_block l.pattern))
