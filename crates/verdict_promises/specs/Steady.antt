-- A decision that never changes: what the three readings then say of a tributary.
use Rattle.std.specs.Prelude.{◌≡◌, Bool, true, List, ℕ, suc, ◌+◌, ◌≤◌, ◌<◌, length}
use Rattle.table.specs.declared.Row.{Row}
use Rattle.levels.specs.Sizes.{frames_of}
use Rattle.levels.specs.Order.{stuffed, decisions, has_negative}
use Rattle.slips.specs.Slips.{least_of}
use Rattle.verdict_blocks.specs.Blocks.{Block, better_of}
use Rattle.verdict_blocks.specs.Readings.{majorities}
use Rattle.verdict.specs.Feed.{fed_state}
use Rattle.verdict_states.specs.States.{State, fresh_state}

-- tributary j's decision is `is` in every frame of a recording, and in the earlier vote where a level looks at it
pub record Steady (row : Row) (earlier : ℕ) (line : List ℕ) (j : ℕ) (is : Bool) : Type 0 where
  pub in_the_line : (f : ℕ) → f < frames_of row (length line) → decisions (majorities row line) j f ≡ is
  pub nor_before : has_negative row ≡ true → stuffed earlier j ≡ is

-- a recording fed to a fresh state: what is known of tributary j by its own frames, by the frames before (the unknown vote taken as no tributary stuffed, and as all four)
-- and by the frames after
abbrev pub recorded : Row → ℕ → ℕ → ℕ → List ℕ → ℕ → (ℕ → ℕ → ℕ) → State
recorded row level earlier pattern line next lent = fed_state row (fresh_state row level earlier pattern) line next lent

abbrev pub by_own : State → ℕ → Block
by_own s j = s.blocks j

abbrev pub by_before : State → ℕ → Block
by_before s j = better_of (s.blocks (4 + j)) (s.blocks (8 + j))

abbrev pub by_after : State → ℕ → Block
by_after s j = s.blocks (12 + j)

-- a reading costs no more than another: it has taken the pattern up if that one has, and if both have, or none, its least number is no greater
pub record NoDearer (than one : Block) : Type 0 where
  pub taken : than.standing.taken ≤ one.standing.taken
  pub costs : than.standing.taken ≡ one.standing.taken → least_of one.lanes ≤ least_of than.lanes
