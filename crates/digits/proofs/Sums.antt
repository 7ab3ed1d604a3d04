-- Laws of sums: of equal values, of values that are bounded, of one value over and over, of nothing.
use mathlib.Core.Path.{◌≡◌, refl}
use Prim.Native.Nat.{ℕ, zero, suc, ◌*◌, ◌≤◌, ◌<◌}
use native.Mathlib.Omega.{arith}
use native.Mathlib.Decide.{dec_lt}
use native.Mathlib.Nat.{suc-mul}
use Rattle.digits.specs.Sums.{sum_to}

pub sum_same : (n : ℕ) (g h : ℕ → ℕ) → ((i : ℕ) → i < n → g i ≡ h i) → sum_to n g ≡ sum_to n h
unfolding sum_to
sum_same zero g h e = refl
sum_same (suc n) g h e = rw (sum_same n g h (λ i hi. e i (omega arith)), e n (omega arith))

pub sum-most : (n m : ℕ) (g : ℕ → ℕ) → ((i : ℕ) → i < n → g i ≤ m) → sum_to n g ≤ n * m
unfolding sum_to
sum-most zero m g few = omega arith
sum-most (suc n) m g few = omega (arith, suc-mul n m, sum-most n m g (λ i hi. few i (omega arith)), few n (omega arith))

pub sum-all : (n m : ℕ) (g : ℕ → ℕ) → ((i : ℕ) → i < n → g i ≡ m) → sum_to n g ≡ n * m
unfolding sum_to
sum-all zero m g same = omega arith
sum-all (suc n) m g same = omega (arith, suc-mul n m, sum-all n m g (λ i hi. same i (omega arith)), same n (omega arith))

-- a sum of 0 has no other value in it
pub sum-zero : (n : ℕ) (g : ℕ → ℕ) → sum_to n g ≡ 0 → (i : ℕ) → i < n → g i ≡ 0
unfolding sum_to
sum-zero zero g e i h = absurd (none h)
  where
    none : i < 0 → ⊥
    none h = omega arith
sum-zero (suc n) g e i h =
    elim (dec_lt i n) [
      | yes l ↦ sum-zero n g (omega arith) i l
      | no l ↦ let last : i ≡ n = omega arith in rw last (omega arith)
    ]
