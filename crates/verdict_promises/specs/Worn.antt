-- The physics of a worn line: a multiplexer put a tributary's digits into it by the decisions of its own frames, or by those of the frames before or after; on the way some
-- digits changed; and the tributary itself was what was sent, with digits lost and doubled on the way to the multiplexer.
use Rattle.std.specs.Prelude.{◌≡◌, Bool, cond, List, ℕ, suc, ◌+◌, ◌*◌, ◌/◌, ◌≤◌, ◌<◌, eqb, length, get_or, drop}
use Rattle.digits.specs.Digits.{digits_of, differing}
use Rattle.digits.specs.Sums.{sum_to}
use Rattle.table.specs.declared.Row.{Row}
use Rattle.levels.specs.declared.order.Action.{Action}
use Rattle.levels.specs.Sizes.{frames_of}
use Rattle.levels.specs.Order.{actions, carries}
use Rattle.promises.specs.Damage.{group_at, allowed}
use Rattle.promises.specs.Carried.{Room}
use Rattle.judge_promises.specs.Verdicts.{Index, acts_on, acted_line}
use Rattle.slips.specs.Slips.{least_of}
use Rattle.verdict_blocks.specs.Blocks.{Block, zero_at, start_of}
use Rattle.verdict_blocks.specs.Readings.{read_by, counts_by}
use Rattle.verdict_promises.specs.Paths.{slips_on, Path, low_in}

-- in how many of the first x columns of tributary j a place carries a digit, by what the frames do, and the digit has changed
unfoldable pub changed_in : Row → (ℕ → Action) → ℕ → List ℕ → List ℕ → ℕ → ℕ
changed_in row acts j sent received x =
    sum_to x (λ (y : ℕ). cond (carries row acts (4 * y + j)) (cond (eqb (get_or sent (4 * y + j) 0) (get_or received (4 * y + j) 0)) 0 1) 0)

-- a multiplexer with this index made the line of these tributaries' digits, a frame for each note; on its way "changed as demand 3 allows and besides in e of the tributary's
-- carrying places": of each of tributary j's control groups fewer than half, of the digits that it carries e at most, and of all others as many as one likes
pub record Worn (row : Row) (index : Index) (earlier : ℕ) (tributary : ℕ → List ℕ) (line : List ℕ) (j e : ℕ) : Type 0 where
  pub notes : List ℕ
  pub unknown : ℕ
  pub whole : length line ≡ length notes * row.bytes
  pub room : Room row (length notes) tributary
  pub few_controls : (f : ℕ) → f < length notes
      → differing (group_at row (acted_line row earlier notes (acts_on row index earlier notes unknown) tributary) f j) (group_at row (digits_of line) f j) ≤ allowed row
  pub few_digits :
      changed_in row (actions row (get_or (acts_on row index earlier notes unknown) 0 0) (drop 1 (acts_on row index earlier notes unknown)) j) j
      (acted_line row earlier notes (acts_on row index earlier notes unknown) tributary) (digits_of line) (2 * length line)
      ≤ e

-- "T is S along a path": each of a tributary's first n digits is the one that was sent at the number that the path gives it
abbrev pub Along : (ℕ → ℕ) → List ℕ → (ℕ → ℕ) → ℕ → Type 0
Along sent t path n = (i : ℕ) → i < n → get_or t i 0 ≡ sent (i + path (suc i))

-- what a reading costs, as the answer tells it: wrong digits and sixteen times the slips
abbrev pub cost_told : Block → ℕ
cost_told b = least_of b.lanes / 4294967296

-- the digits that a reading of tributary j by these votes has
abbrev pub read_count : Row → List ℕ → ℕ → List ℕ → ℕ
read_count row line j by = start_of (counts_by row by j) (frames_of row (length line))

-- a path that explains a tributary t: its digits are what was sent along the path, and in each frame the path stays within the lanes of the reading by these votes
pub record Explains (row : Row) (line : List ℕ) (sent : ℕ → ℕ) (j : ℕ) (by t : List ℕ) (path : ℕ → ℕ) : Type 0 where
  pub few_frames : frames_of row (length line) ≤ 144115188075855872
  pub few_slips : slips_on path (read_count row line j by) < 4294967296
  pub is_path : Path (low_in sent (read_by row line by j) (counts_by row by j)) (counts_by row by j) (frames_of row (length line)) path
  pub along : Along sent t path (read_count row line j by)

-- the same of few: e changed digits and twice the slips, each for sixteen digits, come to no more than 143; then nothing is asked of lanes
pub record Few (row : Row) (line : List ℕ) (sent : ℕ → ℕ) (j : ℕ) (by t : List ℕ) (e : ℕ) (path : ℕ → ℕ) : Type 0 where
  pub few_frames : frames_of row (length line) ≤ 144115188075855872
  pub begins : path 0 ≡ zero_at
  pub along : Along sent t path (read_count row line j by)
  pub few : e + 32 * slips_on path (read_count row line j by) ≤ 143

-- an unknown vote is tried as stuffed for no tributary and for all four
abbrev pub tried : Bool → ℕ
tried t = cond t 15 0
