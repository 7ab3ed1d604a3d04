-- The ones in the difference of two windows are the places at which their digits differ; and in the sum of a pattern's digit and the two stages that are fed
-- back the ones are the places at which the digit is what the inverted pattern has.
use mathlib.Core.Path.{◌≡◌, refl}
use mathlib.Core.Bool.{cond}
use mathlib.Core.Logic.{◌≢◌}
use mathlib.Core.List.{List}
use Prim.Native.Nat.{ℕ, zero, suc, ◌+◌, ◌*◌, ◌-◌, ◌≤◌, ◌<◌}
use native.Mathlib.Omega.{arith}
use native.Mathlib.Nat.{zero-add, add-zero, add-suc}
use lib.Dec.{eqb}
use borrow.Author.Tests.{ne_eqb}
use lib.ListN.{get_or}
use lib.Pow.{high, low}
use lib.Bits.{bit_xor, xor_step, xor_lt, differ}
use lib.Count.{ones, ones_in, ones-le}
use Rattle.digits.specs.Digits.{Binary, window_at}
use Rattle.digits.specs.Sums.{sum_to}
use Rattle.digits.proofs.Laws.{by-digit}
use Rattle.digits.proofs.Windows.{window-lt}
use Rattle.levels.proofs.Windows.{differs, xor-more}
use Rattle.judge.specs.Wrong.{stage_of, due_at}
use Rattle.judge.specs.Counting.{wrong_among}

no_ones : ones (bit_xor 0 0) ≡ 0
unfolding ones ones_in
no_ones = refl

module _ (ds es : List ℕ) (bd : Binary ds) (be : Binary es) (p : ℕ) where
  pub others-few : (n : ℕ) → ones (bit_xor (window_at ds p n) (window_at es p n)) ≤ n
  others-few n = ones-le n (bit_xor (window_at ds p n) (window_at es p n)) (xor_lt n (window_at ds p n) (window_at es p n) (window-lt ds bd p n) (window-lt es be p n))

  pub others-more : (n : ℕ) → wrong_among 0 es ds (p + n) ≡ wrong_among 0 es ds p + ones (bit_xor (window_at ds p n) (window_at es p n))
  unfolding window_at wrong_among due_at sum_to
  others-more zero = rw (add-zero p) (omega (arith, no_ones))
  others-more (suc n) =
      rw (add-suc p n, zero-add (p + n), xor-more (window_at ds p n) (window_at es p n) (get_or ds (p + n) 0) (get_or es (p + n) 0) (bd (p + n)) (be (p + n)))
      (omega (arith, others-more n))

-- a digit is the two digits' sum without carry, or it is that sum inverted
one_way : (c a b : ℕ) → c < 2 → a < 2 → b < 2 → cond (eqb c (differ a b)) 0 1 + cond (eqb c (cond (eqb a b) 1 0)) 0 1 ≡ 1
one_way c a b hc ha hb =
    by-digit (λ (c : ℕ). cond (eqb c (differ a b)) 0 1 + cond (eqb c (cond (eqb a b) 1 0)) 0 1 ≡ 1) (of-first 0 (omega arith)) (of-first 1 (omega arith)) c hc
  where
    of-second : (c a : ℕ) → (cond (eqb c (differ a 0)) 0 1 + cond (eqb c (cond (eqb a 0) 1 0)) 0 1 ≡ 1)
        → (cond (eqb c (differ a 1)) 0 1 + cond (eqb c (cond (eqb a 1) 1 0)) 0 1 ≡ 1)
        → cond (eqb c (differ a b)) 0 1 + cond (eqb c (cond (eqb a b) 1 0)) 0 1 ≡ 1
    of-second c a z o = by-digit (λ (b : ℕ). cond (eqb c (differ a b)) 0 1 + cond (eqb c (cond (eqb a b) 1 0)) 0 1 ≡ 1) z o b hb

    of-first : (c : ℕ) → c < 2 → cond (eqb c (differ a b)) 0 1 + cond (eqb c (cond (eqb a b) 1 0)) 0 1 ≡ 1
    of-first c hc =
        by-digit (λ (a : ℕ). cond (eqb c (differ a b)) 0 1 + cond (eqb c (cond (eqb a b) 1 0)) 0 1 ≡ 1)
        (by-digit (λ (c : ℕ). cond (eqb c (differ 0 b)) 0 1 + cond (eqb c (cond (eqb 0 b) 1 0)) 0 1 ≡ 1) (of-second 0 0 refl refl) (of-second 1 0 refl refl) c hc)
        (by-digit (λ (c : ℕ). cond (eqb c (differ 1 b)) 0 1 + cond (eqb c (cond (eqb 1 b) 1 0)) 0 1 ≡ 1) (of-second 0 1 refl refl) (of-second 1 1 refl refl) c hc)
        a
        ha

-- one digit more on each of three numbers
three-more : (w u v c a b : ℕ) → c < 2 → a < 2 → b < 2
    → ones (bit_xor (w * 2 + c) (bit_xor (u * 2 + a) (v * 2 + b))) + cond (eqb c (cond (eqb a b) 1 0)) 0 1 ≡ ones (bit_xor w (bit_xor u v)) + 1
three-more w u v c a b hc ha hb =
    let sum : bit_xor (u * 2 + a) (v * 2 + b) ≡ bit_xor u v * 2 + differ a b = rw (xor_step (u * 2 + a) (v * 2 + b), high u 1 ha, high v 1 hb, low u 1 ha, low v 1 hb) in
    rw (sum, xor-more w (bit_xor u v) c (differ a b) hc (differs a b ha hb).1) (omega (arith, one_way c a b hc ha hb))

module _ (pattern : ℕ) (ds : List ℕ) (bd : Binary ds) (some : pattern ≢ 0) (h : stage_of pattern ≤ pattern) (sent : List ℕ) (p : ℕ) where
  -- the digits and the two stages
  abbrev sums : ℕ → ℕ
  sums n = bit_xor (window_at ds (pattern + p) n) (bit_xor (window_at ds (pattern + p - stage_of pattern) n) (window_at ds p n))

  pub unmade-few : (n : ℕ) → ones (sums n) ≤ n
  unmade-few n =
      let stages = xor_lt n (window_at ds (pattern + p - stage_of pattern) n) (window_at ds p n) (window-lt ds bd (pattern + p - stage_of pattern) n) (window-lt ds bd p n) in
      ones-le n (sums n) (xor_lt n (window_at ds (pattern + p) n) _ (window-lt ds bd (pattern + p) n) stages)

  pub unmade-more : (n : ℕ) → wrong_among pattern sent ds (p + n) + ones (sums n) ≡ wrong_among pattern sent ds p + n
  unfolding window_at wrong_among due_at sum_to
  unmade-more zero = rw (add-zero p) (omega (arith, no_ones))
  unmade-more (suc n) =
      let one = three-more (window_at ds (pattern + p) n) (window_at ds (pattern + p - stage_of pattern) n) (window_at ds p n) in
      let here : pattern + (p + n) ≡ pattern + p + n = omega arith in
      let stage : pattern + p + n - stage_of pattern ≡ pattern + p - stage_of pattern + n = omega arith in
      let last : pattern + p + n - pattern ≡ p + n = omega arith in
      let c = get_or ds (pattern + p + n) 0 in
      let a = get_or ds (pattern + p - stage_of pattern + n) 0 in
      let b = get_or ds (p + n) 0 in
      rw (add-suc p n, ne_eqb pattern 0 some, here, stage, last)
      (omega (arith, rw (ne_eqb pattern 0 some) at (unmade-more n), one c a b (bd (pattern + p + n)) (bd (pattern + p - stage_of pattern + n)) (bd (p + n))))
