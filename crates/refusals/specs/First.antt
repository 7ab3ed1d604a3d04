-- "The first that applies is the answer" (document 01, "Refusal numbers"), of any list of numbers and of whether each applies: said by the places of the list,
-- and not by a chain of tests.
use Rattle.std.specs.Prelude.{◌≡◌, Bool, true, false, List, ℕ, ◌<◌, length, get_or}

-- a row of the table: a number, and whether it is to be given
pub record Given : Type 0 where
  pub number : ℕ
  pub applies : Bool

abbrev pub given : ℕ → Bool → Given
given number applies = record { number = number; applies = applies }

-- row i, from 0
abbrev pub row_at : List Given → ℕ → Given
row_at table i = get_or table i (given 0 false)

pub record FirstThatApplies (table : List Given) (answer : ℕ) : Type 0 where
  -- a row applies, and none before it: its number is the answer
  pub first : (i : ℕ) → i < length table → (row_at table i).applies ≡ true → ((k : ℕ) → k < i → (row_at table k).applies ≡ false) → answer ≡ (row_at table i).number
  -- no row applies: 0, accepted
  pub none : ((i : ℕ) → i < length table → (row_at table i).applies ≡ false) → answer ≡ 0
