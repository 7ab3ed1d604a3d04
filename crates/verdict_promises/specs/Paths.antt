-- What explains a reading: paths, and the one that costs least. A path gives each digit a shift and begins at shift 0; digit i at shift s is held against the digit sent
-- at number i + s. It costs 1 for each digit that differs and 16 for each step of the shift by one. Shifts are held `zero_at` too high, so that none is below 0.
use Rattle.std.specs.Prelude.{◌≡◌, List, ℕ, suc, ◌+◌, ◌-◌, ◌*◌, ◌/◌, ◌%◌, ◌^◌, ◌≤◌, ◌<◌, get_or}
use Rattle.digits.specs.Sums.{sum_to}
use Rattle.slips.specs.Slips.{apart, wrong_of, fresh}
use Rattle.patterns.specs.Patterns.{window_after}
use Rattle.verdict_blocks.specs.Blocks.{Block, zero_at, fresh_low, fresh_block, start_of, frames_to}

-- ---- a path: `path 0` is where it begins, `path (suc i)` the shift of digit i

-- how many of a reading's first n digits are wrong, each held at its shift
unfoldable pub wrongs_on : (ℕ → ℕ) → List ℕ → (ℕ → ℕ) → ℕ → ℕ
wrongs_on sent ds path n = sum_to n (λ (i : ℕ). wrong_of sent (i + path (suc i)) (get_or ds i 0))

-- how many steps of the shift it makes up to the last of them
unfoldable pub slips_on : (ℕ → ℕ) → ℕ → ℕ
slips_on path n = sum_to n (λ (i : ℕ). apart (path (suc i)) (path i))

-- "It costs 1 for each digit that differs and 16 for each step of the shift by one"
abbrev pub cost_on : (ℕ → ℕ) → List ℕ → (ℕ → ℕ) → ℕ → ℕ
cost_on sent ds path n = wrongs_on sent ds path n + 16 * slips_on path n

-- a shift is one of the seventeen lanes of which the lowest has shift `low`: within 8 of the middle
abbrev pub Near : ℕ → ℕ → Type 0
Near low shift = (low ≤ shift) × (shift ≤ low + 16)

-- "a path is then one that never is more than 8 lanes from the middle of its frame": F frames of so many digits each, and the shift of lane 0 in each
pub record Path (low counts : ℕ → ℕ) (F : ℕ) (path : ℕ → ℕ) : Type 0 where
  pub begins : path 0 ≡ zero_at
  pub within : (f m : ℕ) → f < F → m < counts f → Near (low f) (path (suc (start_of counts f + m)))

-- "The answer for a reading is the least cost of all paths and, of the paths that cost this, the fewest steps": a path that explains the first n digits best, and
-- `number` tells its cost and its slips
pub record Cheapest (sent : ℕ → ℕ) (ds : List ℕ) (low counts : ℕ → ℕ) (F number : ℕ) : Type 0 where
  pub path : ℕ → ℕ
  pub is_path : Path low counts F path
  pub cost : (other : ℕ → ℕ) → Path low counts F other → cost_on sent ds path (start_of counts F) ≤ cost_on sent ds other (start_of counts F)
  pub slips : (other : ℕ → ℕ) → Path low counts F other → cost_on sent ds other (start_of counts F) ≡ cost_on sent ds path (start_of counts F)
      → slips_on path (start_of counts F) ≤ slips_on other (start_of counts F)
  pub cost_told : number / 4294967296 ≡ cost_on sent ds path (start_of counts F)
  pub slips_told : number % 4294967296 ≡ slips_on path (start_of counts F)

-- ---- the frames of a recording, read by some votes and held against digits that were sent, from a fresh state on

abbrev pub from_fresh : (ℕ → ℕ) → List ℕ → (ℕ → ℕ) → ℕ → Block
from_fresh sent ds counts f = frames_to 0 sent ds counts (fresh_block 0) f

-- the shift of lane 0 in frame f
abbrev pub low_in : (ℕ → ℕ) → List ℕ → (ℕ → ℕ) → ℕ → ℕ
low_in sent ds counts f = (from_fresh sent ds counts f).standing.low

-- ---- with a pattern: from the digit on after which it was taken up

-- what was sent: the pattern goes on for ever from a window whose first digit has number `at`
unfoldable pub goes_on : ℕ → ℕ → ℕ → ℕ → ℕ
goes_on pattern window at m = window_after pattern window (m - at) / 2 ^ 22 % 2

-- a block whose pattern has just been taken up: lanes as fresh, and a window of the last 23 digits
pub record JustTaken (b : Block) : Type 0 where
  pub taken : b.standing.taken ≡ 1
  pub is_low : b.standing.low ≡ fresh_low
  pub is_fresh : b.lanes ≡ fresh
  pub window_at : b.standing.at + 23 ≡ zero_at + b.standing.read

-- the frames from there on: the first is the rest of the one in which it was taken up
abbrev pub sent_from : ℕ → Block → ℕ → ℕ
sent_from pattern b m = goes_on pattern b.standing.window b.standing.at (b.standing.read + m)

abbrev pub low_from : ℕ → (ℕ → ℕ) → List ℕ → (ℕ → ℕ) → Block → ℕ → ℕ
low_from pattern lent ds counts b f = (frames_to pattern lent ds counts b f).standing.low
