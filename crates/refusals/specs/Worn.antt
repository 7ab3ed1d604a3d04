-- The refusals of the verdict on a worn line, and what its two calls leave where they are refused. Shapes and words are those of specs/Tables.antt.
use Rattle.std.specs.Prelude.{◌≡◌, not, ◌||◌, ◌&&◌, List, [], ◌∷◌, ℕ, ◌%◌, eqb, ltb, get_or, replicate}
use Rattle.table.specs.declared.Row.{Row}
use Rattle.levels.specs.Sizes.{bad_line}
use Rattle.levels.specs.Faults.{bad_earlier}
use Rattle.verdict_states.specs.States.{state_from, bad_pattern, is_valid, no_state}
use Rattle.refusals.specs.First.{Given, given}
use Rattle.refusals.specs.Tables.{no_level, on_row}

-- a fresh state: "in the order 1, 13, 5 (earlier over 15, levels 12 and 14 only)"
abbrev pub fresh_table : ℕ → ℕ → ℕ → List Given
fresh_table level earlier pattern =
    given 1 (no_level level)
    ∷ given 13 (bad_pattern pattern)
    ∷ given 5 (on_row level (λ (row : Row). bad_earlier row earlier))
    ∷ []

-- a feed: "in the order 6 (state not valid), 2 (line), 4 (pattern 0 and sent_bytes not a multiple of 4), 5 (next over 16)"; a state of no level is not valid
abbrev pub feed_table : List ℕ → ℕ → ℕ → ℕ → List Given
feed_table state line next sent =
    given 6 (no_level (get_or state 0 0) || not (is_valid (state_from state)))
    ∷ given 2 (on_row (get_or state 0 0) (λ (row : Row). bad_line row line))
    ∷ given 4 (eqb (state_from state).pattern 0 && not (eqb (sent % 4) 0))
    ∷ given 5 (ltb 16 next)
    ∷ []

-- "the state is then zeros"; "the state is then unchanged", and the answer zeros
abbrev pub FreshNothing : List ℕ → Type 0
FreshNothing made = made ≡ no_state

abbrev pub FeedNothing : List ℕ → List ℕ → List ℕ → Type 0
FeedNothing state left answer = (left ≡ state) × (answer ≡ replicate 88 0)
