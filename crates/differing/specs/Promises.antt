-- What the theorems over a comparison speak of: a list of frames and places that shows every differing digit up to its length, and no other.
use Rattle.std.specs.Prelude.{◌≡◌, Bool, true, List, ℕ, ◌+◌, ◌*◌, ◌<◌, get_or}
use Rattle.table.specs.declared.Row.{Row}
use Rattle.tally.specs.Tally.{all_of}

-- entry i of a list of frames and places, as a place of the line
abbrev pub entry_of : Row → List ℕ → ℕ → ℕ
entry_of row places i = get_or places (2 * i) 0 * row.digits + get_or places (2 * i + 1) 0

-- of the places before n at which the test is true the first so many are listed, each with a place that is in its frame, in order, and none of the
-- earlier ones is left out: a place with i others before it is entry i
pub record Lists (row : Row) (test : ℕ → Bool) (n listed : ℕ) (places : List ℕ) : Type 0 where
  pub in_frame : (i : ℕ) → i < listed → get_or places (2 * i + 1) 0 < row.digits
  pub in_line : (i : ℕ) → i < listed → entry_of row places i < n
  pub differs : (i : ℕ) → i < listed → test (entry_of row places i) ≡ true
  pub rises : (i k : ℕ) → i < k → k < listed → entry_of row places i < entry_of row places k
  pub complete : (p : ℕ) → p < n → test p ≡ true → all_of test p < listed → entry_of row places (all_of test p) ≡ p
  pub zeros_after : (i : ℕ) → listed < i + 1 → (get_or places (2 * i) 0 ≡ 0) × (get_or places (2 * i + 1) 0 ≡ 0)
