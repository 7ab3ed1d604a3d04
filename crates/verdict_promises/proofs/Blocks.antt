-- The blocks of a recording that was fed to a fresh state: what the votes of each way make of a fresh block.
use mathlib.Core.Path.{◌≡◌, refl}
use mathlib.Core.Bool.{cond}
use mathlib.Core.List.{List}
use Prim.Native.Nat.{ℕ, ◌+◌, ◌/◌, ◌%◌, ◌<◌}
use native.Mathlib.Omega.{arith}
use Rattle.table.specs.declared.Row.{Row}
use Rattle.levels.specs.Order.{has_negative}
use Rattle.verdict_blocks.specs.Blocks.{Block, fresh_block}
use Rattle.verdict_blocks.specs.Readings.{majorities, ran_by, ran_after, own_votes, before_votes}
use Rattle.verdict.specs.Feed.{fed_block, fed_state}
use Rattle.verdict_states.specs.States.{State, fresh_state}
use Rattle.verdict_promises.specs.Steady.{recorded}

module _ (row : Row) (level earlier pattern : ℕ) (line : List ℕ) (next : ℕ) (lent : ℕ → ℕ → ℕ) (j : ℕ) (hj : j < 4) where
  abbrev recording : State
  recording = recorded row level earlier pattern line next lent

  abbrev notes : List ℕ
  notes = majorities row line

  abbrev b0 : Block
  b0 = fresh_block pattern

  abbrev ran : List ℕ → Block
  ran v = ran_by row pattern (lent j) line v j b0

  -- the blocks are what the votes of their ways make of a fresh one
  block_at : (k w : ℕ) → k / 4 ≡ w → k % 4 ≡ j → recording.blocks k ≡ fed_block row (fresh_state row level earlier pattern) line next lent w j
  unfolding fed_state
  block_at k w e g = rw (e, g) refl

  pub own_block : recording.blocks j ≡ ran (own_votes (cond (has_negative row) earlier 0) notes)
  unfolding fed_block fresh_state
  own_block = block_at j 0 (omega arith) (omega arith)

  pub none-block : recording.blocks (4 + j) ≡ ran (before_votes 0 (cond (has_negative row) earlier 0) notes)
  unfolding fed_block fresh_state
  none-block = block_at (4 + j) 1 (omega arith) (omega arith)

  pub all-block : recording.blocks (8 + j) ≡ ran (before_votes 15 (cond (has_negative row) earlier 15) notes)
  unfolding fed_block fresh_state
  all-block = block_at (8 + j) 2 (omega arith) (omega arith)

  pub after_block : recording.blocks (12 + j) ≡ ran_after row pattern (lent j) line notes next j b0
  unfolding fed_block fresh_state
  after_block = block_at (12 + j) 3 (omega arith) (omega arith)
