-- Differing digits by the word: the numbers that the inner functions of a comparison have at hand, between the sums that it answers and the loops.
use Rattle.std.specs.Prelude.{◌≡◌, cond, List, ℕ, zero, suc, ◌+◌, ◌*◌, ◌/◌, ◌%◌, ◌≤◌, length, get_or, set}
use Rattle.std.specs.Int.Bits.{bit_xor}
use Rattle.digits.specs.Digits.{digits_of, window_at}
use Rattle.digits.specs.Sums.{sum_to}
use Rattle.tally.specs.Tally.{differ_at}
use Rattle.masks.specs.declared.Lanes.{Lanes}

-- two lines of one length, none too long to be counted
pub record Even (one other : List ℕ) : Type 0 where
  pub same_length : length one ≡ length other
  pub short : length one ≤ 65536

-- 1 where they differ
abbrev pub unit_at : List ℕ → List ℕ → ℕ → ℕ
unit_at one other p = cond (differ_at one other p) 1 0

-- the n digits from place p on as a number, with a one where the lines differ
abbrev pub differing : List ℕ → List ℕ → ℕ → ℕ → ℕ
differing one other p n = bit_xor (window_at (digits_of one) p n) (window_at (digits_of other) p n)

-- how many of n places from p on differ, and how many of the places of tributary j in k columns from p on
abbrev pub all_from : List ℕ → List ℕ → ℕ → ℕ → ℕ
all_from one other p n = sum_to n (λ (i : ℕ). unit_at one other (p + i))

abbrev pub columns_of : List ℕ → List ℕ → ℕ → ℕ → ℕ → ℕ
columns_of one other p j k = sum_to k (λ (c : ℕ). unit_at one other (p + 4 * c + j))

-- v more in sum k; of four tributaries each its own
abbrev pub added : List ℕ → ℕ → ℕ → List ℕ
added sums k v = set sums k (get_or sums k 0 + v)

abbrev pub added_four : List ℕ → ℕ → (ℕ → ℕ) → List ℕ
added_four sums base v = added (added (added (added sums base (v 0)) (base + 3) (v 1)) (base + 6) (v 2)) (base + 9) (v 3)

-- one of four numbers, by the tributary, counted from 0
abbrev pub by_four : ℕ → ℕ → ℕ → ℕ → ℕ → ℕ
by_four a b c d zero = a
by_four a b c d (suc zero) = b
by_four a b c d (suc (suc zero)) = c
by_four a b c d (suc (suc (suc j))) = d

-- ---- groups of four digits

-- a one in each of k groups, and in each of fourteen
unfoldable pub every_to : ℕ → ℕ
every_to zero = 0
every_to (suc k) = every_to k * 16 + 1

abbrev pub EVERY : ℕ
EVERY = 4803839602528529

-- the sum of the k lowest groups of a number
unfoldable pub nibbles : ℕ → ℕ → ℕ
nibbles zero y = 0
nibbles (suc k) y = nibbles k (y / 16) + y % 16

-- a number of k groups, none over m
unfoldable pub Within : ℕ → ℕ → ℕ → Type 0
Within zero m y = y ≡ 0
Within (suc k) m y = (y % 16 ≤ m) × Within k m (y / 16)

-- one tributary's number: what differs in its places of so many columns, added up in so many turns
pub record Lane (one other : List ℕ) (p columns turns j y : ℕ) : Type 0 where
  pub small : Within 14 turns y
  pub sum : nibbles 14 y ≡ columns_of one other p j columns

-- and those of the four
pub record Held (one other : List ℕ) (p columns turns : ℕ) (l : Lanes) : Type 0 where
  pub first : Lane one other p columns turns 0 l.first
  pub second : Lane one other p columns turns 1 l.second
  pub third : Lane one other p columns turns 2 l.third
  pub fourth : Lane one other p columns turns 3 l.fourth
