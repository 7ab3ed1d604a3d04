-- Feeding: the next frames of a recording fed to a state, which passes as an array of numbers (crate `verdict_states`).
use Rattle.std.specs.Prelude.{◌≡◌, cond, ◌&&◌, not, List, [], ◌∷◌, ◌++◌, ℕ, ◌+◌, ◌-◌, ◌*◌, ◌/◌, ◌%◌, min, eqb, ltb, length, get_or, replicate}
use Rattle.digits.specs.Digits.{digits_of}
use Rattle.table.specs.declared.Row.{Row}
use Rattle.table.specs.Table.{level_of}
use Rattle.levels.specs.Sizes.{on_level, frames_of, bad_line, quarter_of}
use Rattle.slips.specs.Slips.{lent_from, least_of, best_of}
use Rattle.verdict_blocks.specs.Blocks.{Block, zero_at, better_of}
use Rattle.verdict_blocks.specs.Readings.{majorities, own_votes, before_votes, ran_by, ran_after}
use Rattle.verdict_states.specs.States.{own_way, before_none, before_all, State, numbers_of, state_from, is_valid, changes_in, vote_ago}

-- ---- frames fed

-- what was sent: the digits of tributary j's quarter, the first of them with number `first`; no reading comes to a number over 2^62
abbrev pub lent_to : List ℕ → ℕ → ℕ → ℕ → ℕ
lent_to sent first j = lent_from (zero_at + min first 4611686018427387904) (digits_of (quarter_of sent j))

-- the block of way w and tributary j after these frames
unfoldable pub fed_block : Row → State → List ℕ → ℕ → (ℕ → ℕ → ℕ) → ℕ → ℕ → Block
fed_block row s line next lent w j =
    let notes = majorities row line in
    let b = s.blocks (4 * w + j) in
    cond (eqb w own_way) (ran_by row s.pattern (lent j) line (own_votes s.last notes) j b)
    (cond (eqb w before_none) (ran_by row s.pattern (lent j) line (before_votes s.older s.last notes) j b)
    (cond (eqb w before_all) (ran_by row s.pattern (lent j) line (before_votes s.older_all s.last_all notes) j b)
    (ran_after row s.pattern (lent j) line notes next j b)))

unfoldable pub fed_state : Row → State → List ℕ → ℕ → (ℕ → ℕ → ℕ) → State
fed_state row s line next lent =
    let notes = majorities row line in
    let F = frames_of row (length line) in
    record {
      level = s.level;
      pattern = s.pattern;
      came = cond (eqb F 0) s.came 1;
      older = vote_ago s.older s.last notes 1;
      last = vote_ago s.older s.last notes 0;
      older_all = vote_ago s.older_all s.last_all notes 1;
      last_all = vote_ago s.older_all s.last_all notes 0;
      changes = λ (j : ℕ). s.changes j + changes_in s.came (s.last ∷ notes) j F;
      blocks = λ (b : ℕ). fed_block row s line next lent (b / 4) (b % 4);
    }

-- ---- the answer

-- of the best lane's number: slips, and wrong digits beside them
abbrev pub slips_told : ℕ → ℕ
slips_told number = number % 4294967296

abbrev pub wrong_told : ℕ → ℕ
wrong_told number = number / 4294967296 - 16 * (number % 4294967296)

-- a shift, "as a signed number, two's complement"
abbrev pub signed_shift : ℕ → ℕ
signed_shift high = (high + 16140901064495857664) % 18446744073709551616

-- "digits read, digits before the pattern was taken up, digits right .., wrong digits, slips, the shift, and the number of the digit at which the best lane was
-- last entered"; "while a pattern is not taken up, all after the second number are 0"
unfoldable pub told_of : Block → List ℕ
told_of b =
    let s = b.standing in
    let c = best_of b.lanes in
    cond (eqb s.taken 1)
    (s.read
    ∷ s.from
    ∷ s.right
    ∷ wrong_told (least_of b.lanes)
    ∷ slips_told (least_of b.lanes)
    ∷ signed_shift (s.low + c)
    ∷ get_or b.marks c 0
    ∷ [])
    (s.read ∷ s.read ∷ 0 ∷ 0 ∷ 0 ∷ 0 ∷ 0 ∷ [])

-- the 22 numbers of tributary j; "of the two ways at a border the one that was taken up, then the cheaper one, then the one with the unknown decision 0"
abbrev pub tributary_told : State → ℕ → List ℕ
tributary_told s j =
    (s.changes j ∷ [])
    ++ (told_of (s.blocks j) ++ (told_of (better_of (s.blocks (4 + j)) (s.blocks (8 + j))) ++ told_of (s.blocks (12 + j))))

unfoldable pub answer_of : State → List ℕ
answer_of s = tributary_told s 0 ++ (tributary_told s 1 ++ (tributary_told s 2 ++ tributary_told s 3))

-- ---- refusals

-- "6 (state not valid), 2 (line), 4 (pattern 0 and sent_bytes not a multiple of 4), 5 (next over 16)"
unfoldable pub feed_fault : Row → State → ℕ → ℕ → ℕ → ℕ
feed_fault row s line next sent =
    cond (not (is_valid s)) 6
    (cond (bad_line row line) 2 (cond (eqb s.pattern 0 && not (eqb (sent % 4) 0)) 4 (cond (ltb 16 next) 5 0)))

abbrev pub feed_refusal : List ℕ → ℕ → ℕ → ℕ → ℕ
feed_refusal state line next sent =
    on_level (level_of (get_or state 0 0)) (λ (row : Row). feed_fault row (state_from state) line next sent) 6

-- what a feed on a level's row leaves, and answers; "the state is then unchanged", and the answer zeros
abbrev pub state_on : Row → List ℕ → List ℕ → ℕ → List ℕ → ℕ → List ℕ
state_on row state line next sent first =
    cond (eqb (feed_fault row (state_from state) (length line) next (length sent)) 0)
    (numbers_of (fed_state row (state_from state) line next (lent_to sent first))) state

abbrev pub answer_on : Row → List ℕ → List ℕ → ℕ → List ℕ → ℕ → List ℕ
answer_on row state line next sent first =
    cond (eqb (feed_fault row (state_from state) (length line) next (length sent)) 0)
    (answer_of (fed_state row (state_from state) line next (lent_to sent first))) (replicate 88 0)

-- the whole statement of feeding: the refusal, the state's numbers and the answer, from the state's numbers before
pub record FeedMet (state line : List ℕ) (next : ℕ) (sent : List ℕ) (first refusal : ℕ) (left answer : List ℕ) : Type 0 where
  pub number : refusal ≡ feed_refusal state (length line) next (length sent)
  pub leaves : left ≡ on_level (level_of (get_or state 0 0)) (λ (row : Row). state_on row state line next sent first) state
  pub answers : answer ≡ on_level (level_of (get_or state 0 0)) (λ (row : Row). answer_on row state line next sent first) (replicate 88 0)
