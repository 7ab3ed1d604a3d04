-- Columns of four digits, one of each tributary, as a list and as a number.
use Rattle.std.specs.Prelude.{List, [], ◌∷◌, ◌++◌, ℕ, zero, suc, ◌+◌, ◌*◌, ◌/◌, ◌%◌, ◌^◌, ◌≤◌, ◌<◌, length, get_or}
use Rattle.weave.specs.declared.Next.{Next}

-- the k last digits of x, each the last of a column of four
unfoldable pub spread_of : ℕ → ℕ → ℕ
spread_of zero x = 0
spread_of (suc k) x = spread_of k (x / 2) * 16 + x % 2

-- up to eight columns as a number: up to eight digits of each tributary
unfoldable pub weave_of : ℕ → ℕ → ℕ → ℕ → ℕ
weave_of a b c d = spread_of 8 a * 8 + spread_of 8 b * 4 + spread_of 8 c * 2 + spread_of 8 d

-- each tributary n digits on
abbrev pub moved_on : Next → ℕ → Next
moved_on i n = record { a = i.a + n; b = i.b + n; c = i.c + n; d = i.d + n }

-- k columns: the next digits of the four tributaries, in turn
unfoldable pub woven : ℕ → List ℕ → List ℕ → List ℕ → List ℕ → Next → List ℕ
woven zero a b c d i = []
woven (suc k) a b c d i =
    woven k a b c d i ++ (get_or a (i.a + k) 0 ∷ get_or b (i.b + k) 0 ∷ get_or c (i.c + k) 0 ∷ get_or d (i.d + k) 0 ∷ [])

-- the four quarters, as bytes, have n digits more each
pub record Has (a b c d : List ℕ) (i : Next) (n : ℕ) : Type 0 where
  pub in_a : i.a + n ≤ 8 * length a
  pub in_b : i.b + n ≤ 8 * length b
  pub in_c : i.c + n ≤ 8 * length c
  pub in_d : i.d + n ≤ 8 * length d
  pub small : (i.a + n < 2 ^ 32) × (i.b + n < 2 ^ 32) × (i.c + n < 2 ^ 32) × (i.d + n < 2 ^ 32)
