-- A state of the verdict, which passes as an array of numbers; a fresh one; and which numbers are a state.
use Rattle.std.specs.Prelude.{◌≡◌, Bool, cond, true, ◌&&◌, ◌||◌, not, List, [], ◌∷◌, ◌++◌, ℕ, zero, suc, ◌+◌, ◌-◌, ◌/◌, ◌%◌, ◌^◌, eqb, leb, ltb, length, get_or, replicate}
use Rattle.digits.specs.Sums.{sum_to}
use Rattle.table.specs.declared.Row.{Row}
use Rattle.table.specs.Table.{level_of}
use Rattle.levels.specs.Sizes.{on_level}
use Rattle.levels.specs.Order.{has_negative}
use Rattle.levels.specs.Faults.{bad_earlier}
use Rattle.slips.specs.Slips.{step_price}
use Rattle.verdict_blocks.specs.declared.standing.Standing.{Standing}
use Rattle.verdict_blocks.specs.Blocks.{Block, fresh_block}
use Rattle.verdict_blocks.specs.Keeping.{block_numbers, block_at}

-- ---- a state

-- the ways that a tributary is read; the reading by the frame before is carried on both ways: the vote before all is unknown, and taken as stuffed for no
-- tributary and for all four
abbrev pub own_way : ℕ
own_way = 0

abbrev pub before_none : ℕ
before_none = 1

abbrev pub before_all : ℕ
before_all = 2

abbrev pub after_way : ℕ
after_way = 3

-- level and pattern; whether a frame was fed; the vote before the last one and the last vote, with the unknown vote 0 and 15; in how many frames each
-- tributary's decision differs from the frame before; a block for each way w and tributary j (from 0), at number 4 · w + j
pub record State : Type 0 where
  pub level : ℕ
  pub pattern : ℕ
  pub came : ℕ
  pub older : ℕ
  pub last : ℕ
  pub older_all : ℕ
  pub last_all : ℕ
  pub changes : ℕ → ℕ
  pub blocks : ℕ → Block

-- ---- its numbers: 11, and 42 for each of the sixteen blocks

unfoldable pub blocks_numbers : ℕ → (ℕ → Block) → List ℕ
blocks_numbers zero g = []
blocks_numbers (suc n) g = blocks_numbers n g ++ block_numbers (g n)

-- the eleven that stand before the blocks
abbrev pub head_of : State → List ℕ
head_of s =
    s.level
    ∷ s.pattern
    ∷ s.came
    ∷ s.older
    ∷ s.last
    ∷ s.older_all
    ∷ s.last_all
    ∷ s.changes 0
    ∷ s.changes 1
    ∷ s.changes 2
    ∷ s.changes 3
    ∷ []

unfoldable pub numbers_of : State → List ℕ
numbers_of s = head_of s ++ blocks_numbers 16 s.blocks

abbrev pub state_size : ℕ
state_size = 683

unfoldable pub state_from : List ℕ → State
state_from ns =
    record {
      level = get_or ns 0 0;
      pattern = get_or ns 1 0;
      came = get_or ns 2 0;
      older = get_or ns 3 0;
      last = get_or ns 4 0;
      older_all = get_or ns 5 0;
      last_all = get_or ns 6 0;
      changes = λ (j : ℕ). get_or ns (7 + j) 0;
      blocks = λ (b : ℕ). block_at ns b;
    }

-- ---- a fresh state

-- before all frames levels 12 and 14 have the earlier vote, and the one before that is unknown; levels 2 to 4 know no earlier vote
unfoldable pub fresh_state : Row → ℕ → ℕ → ℕ → State
fresh_state row level earlier pattern =
    record {
      level = level;
      pattern = pattern;
      came = 0;
      older = 0;
      last = cond (has_negative row) earlier 0;
      older_all = 15;
      last_all = cond (has_negative row) earlier 15;
      changes = λ (j : ℕ). 0;
      blocks = λ (b : ℕ). fresh_block pattern;
    }

-- 13 for any pattern but 0, 15 and 23
abbrev pub bad_pattern : ℕ → Bool
bad_pattern pattern = not (eqb pattern 0 || (eqb pattern 15 || eqb pattern 23))

-- the first of 13 and 5 that applies on a level's row, or 0
unfoldable pub fresh_fault : Row → ℕ → ℕ → ℕ
fresh_fault row earlier pattern = cond (bad_pattern pattern) 13 (cond (bad_earlier row earlier) 5 0)

-- "the state is then zeros"
abbrev pub no_state : List ℕ
no_state = replicate state_size 0

abbrev pub fresh_refusal : ℕ → ℕ → ℕ → ℕ
fresh_refusal level earlier pattern = on_level (level_of level) (λ (row : Row). fresh_fault row earlier pattern) 1

abbrev pub fresh_numbers : ℕ → ℕ → ℕ → List ℕ
fresh_numbers level earlier pattern =
    on_level (level_of level) (λ (row : Row). cond (eqb (fresh_fault row earlier pattern) 0) (numbers_of (fresh_state row level earlier pattern)) no_state) no_state

-- the whole statement of making a fresh state: the refusal, and the state's numbers
abbrev pub FreshMet : ℕ → ℕ → ℕ → ℕ → List ℕ → Type 0
FreshMet level earlier pattern refusal state = (refusal ≡ fresh_refusal level earlier pattern) × (state ≡ fresh_numbers level earlier pattern)

-- ---- which states are valid: those whose numbers leave room for 64 frames more

-- neighbouring lanes are no more than a step apart, and a lane no dearer than 2^62: some 2^30 wrong digits
unfoldable pub good_lanes : List ℕ → ℕ → Bool
good_lanes v zero = leb (get_or v 0 0) 4611686018427387904
good_lanes v (suc k) =
    good_lanes v k
    && (leb (get_or v (suc k) 0) 4611686018427387904
    && (leb (get_or v (suc k) 0) (get_or v k 0 + step_price) && leb (get_or v k 0) (get_or v (suc k) 0 + step_price)))

-- digits up to 2^60, a shift within 2^60, a pattern's window no further than that
unfoldable pub good_standing : ℕ → Standing → Bool
good_standing pattern s =
    leb s.read 1152921504606846976
    && (leb (s.from + s.right) s.read
    && (leb s.taken 1
    && ((eqb s.taken 1 || not (eqb pattern 0))
    && (leb 1152921504606846976 s.low
    && (leb s.low 3458764513820540928
    && (leb s.at 6917529027641081856
    && (ltb s.window (2 ^ 23)
    && (ltb s.follows 64
    && (eqb s.follows 0 || leb (pattern + s.follows) s.read)))))))))

-- a pattern that was taken up is held from lane 0's digit on
abbrev pub good_window : ℕ → Standing → Bool
good_window pattern s = eqb pattern 0 || (eqb s.taken 0 || eqb s.at (s.read + s.low))

abbrev pub good_block : ℕ → Block → Bool
good_block pattern b = good_standing pattern b.standing && (good_window pattern b.standing && good_lanes b.lanes 16)

unfoldable pub good_blocks : ℕ → (ℕ → Block) → ℕ → Bool
good_blocks pattern g zero = true
good_blocks pattern g (suc n) = good_blocks pattern g n && good_block pattern (g n)

abbrev pub few_changes : (ℕ → ℕ) → Bool
few_changes changes =
    leb (changes 0) 4611686018427387904
    && (leb (changes 1) 4611686018427387904 && (leb (changes 2) 4611686018427387904 && leb (changes 3) 4611686018427387904))

unfoldable pub good_head : State → Bool
good_head s =
    not (bad_pattern s.pattern)
    && (leb s.came 1
    && (leb s.older 15 && (leb s.last 15 && (leb s.older_all 15 && (leb s.last_all 15 && few_changes s.changes)))))

abbrev pub is_valid : State → Bool
is_valid s = good_head s && good_blocks s.pattern s.blocks 16

-- ---- its votes and changes when frames are fed

-- tributary j's decision by a vote, 1 is "stuffed"
abbrev pub decided : ℕ → ℕ → ℕ
decided vote j = vote / 2 ^ j % 2

-- "in how many frames of all fed the decision differs from the frame before": before the very first there is none
unfoldable pub changes_in : ℕ → List ℕ → ℕ → ℕ → ℕ
changes_in came votes j F =
    sum_to F (λ (f : ℕ). cond (eqb came 0 && eqb f 0) 0 (cond (eqb (decided (get_or votes (suc f) 0) j) (decided (get_or votes f 0) j)) 0 1))

-- the last vote but so many of those before the line and of the line's; of a note its votes are bits 0 to 3
abbrev pub vote_ago : ℕ → ℕ → List ℕ → ℕ → ℕ
vote_ago older last notes n = get_or (older ∷ last ∷ notes) (length notes + 1 - n) 0 % 16
