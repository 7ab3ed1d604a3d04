-- Laws of the count of zeros: a stretch that takes many digits at once, and the loop over stretches.
use mathlib.Core.Path.{◌≡◌, refl, sym, ap, ◌∙◌}
use mathlib.Core.List.{List, [], ◌∷◌, ◌++◌}
use Prim.Native.Nat.{ℕ, suc, ◌+◌, ◌-◌, ◌*◌, ◌≤◌, ◌<◌, min}
use native.Mathlib.Omega.{arith}
use borrow.Author.Tests.{eqb-false, ne_eqb}
use lib.Dec.{eqb}
use lib.ListN.{length, get_or}
use Rattle.digits.specs.Digits.{digits_of, between, zeros_in}
use Rattle.digits.proofs.ZeroLaws.{between_none, between-one, between_join, between-length}
use Rattle.table.specs.declared.Row.{Row}
use Rattle.pieces.specs.declared.alarm.Stretch.{Stretch}
use Rattle.pieces.specs.Alarm.{added, count_of, counted, Counting}
use Rattle.digits.proofs.Tests.{cond-told}

module _ (row : Row) where
  pub counted-append : (st : Stretch) (xs ys : List ℕ) → counted row st (xs ++ ys) ≡ counted row (counted row st xs) ys
  unfolding counted
  counted-append st [] ys = refl
  counted-append st (x ∷ xs) ys = counted-append (count_of row st x) xs ys

  -- ---- many digits at once

  added_twice : (st : Stretch) (a b x y : ℕ) → st.digits + (a + b) ≤ row.digits → 0 < b → added row (added row st a x) b y ≡ added row st (a + b) (x + y)
  unfolding added
  added_twice st a b x y room some =
      let first = ne_eqb (st.digits + a) row.digits (λ q. omega arith) in
      let d : st.digits + a + b ≡ st.digits + (a + b) = omega arith in
      let z : st.zeros + x + y ≡ st.zeros + (x + y) = omega arith in
      rw (first, d, z)

  pub counted-added : (ds : List ℕ) (st : Stretch) → 0 < length ds → st.digits + length ds ≤ row.digits
      → counted row st ds ≡ added row st (length ds) (zeros_in ds)
  unfolding counted zeros_in added
  counted-added [] st some room = absurd (omega arith)
  counted-added (d ∷ []) st some room =
      let e : 1 - d + 0 ≡ 1 - d = omega arith in
      rw e
  counted-added (d ∷ d' ∷ ds) st some room =
      let one : 1 + suc (length ds) ≡ suc (suc (length ds)) = omega arith in
      counted-added (d' ∷ ds) (added row st 1 (1 - d)) (omega arith) (omega (arith, one-digit))
      ∙ rw one at (added_twice st 1 (suc (length ds)) (1 - d) (zeros_in (d' ∷ ds)) (omega arith) (omega arith))
    where
      one-digit : (added row st 1 (1 - d)).digits ≡ st.digits + 1
      one-digit = rw (ne_eqb (st.digits + 1) row.digits (λ q. omega arith))

  pub added-counting : (st : Stretch) (n z : ℕ) → Counting row st → st.digits + n ≤ row.digits → z ≤ n → Counting row (added row st n z)
  unfolding added
  added-counting st n z c room few =
      cond-told (Counting row) (eqb (st.digits + n) row.digits) (λ _. record { within = omega (arith, c.within); fewer = omega arith })
      (λ e. record { within = under (eqb-false (st.digits + n) row.digits e); fewer = omega (arith, c.fewer) })
    where
      under : (st.digits + n ≡ row.digits → ⊥) → st.digits + n < row.digits
      under q = omega arith

  pub counted-counting : (ds : List ℕ) (st : Stretch) → Counting row st → Counting row (counted row st ds)
  unfolding counted
  counted-counting [] st c = c
  counted-counting (d ∷ ds) st c = counted-counting ds (count_of row st d) (added-counting st 1 (1 - d) c (omega (arith, c.within)) (omega arith))

  -- ---- digits of a slice, in turn

  module _ (slice : List ℕ) (st : Stretch) (first p q : ℕ) (from : first ≤ p) (on : p ≤ q) where
    pub counted-join : counted row st (between slice first q) ≡ counted row (counted row st (between slice first p)) (between slice p q)
    counted-join = rw (between_join slice first p q from on) (counted-append st (between slice first p) (between slice p q))

  pub counted-one : (slice : List ℕ) (st : Stretch) (first p d : ℕ) → first ≤ p → p < 8 * length slice → d ≡ get_or (digits_of slice) p 0
      → counted row st (between slice first (p + 1)) ≡ count_of row (counted row st (between slice first p)) d
  unfolding counted
  counted-one slice st first p d from room e = counted-join slice st first p (p + 1) from (omega arith) ∙ rw (between-one slice p room, ← e)

  pub counted_none : (slice : List ℕ) (st : Stretch) (p : ℕ) → st ≡ counted row st (between slice p p)
  unfolding counted
  counted_none slice st p = rw (between_none slice p)

-- ---- the loop over stretches: what is counted at place p

pub record Cut (row : Row) (slice : List ℕ) (first end : ℕ) (st₀ st : Stretch) (p : ℕ) : Type 0 where
  pub counting : Counting row st
  pub from : first ≤ p
  pub upto : p ≤ end
  pub is : st ≡ counted row st₀ (between slice first p)

module _ (row : Row) (slice : List ℕ) (first end : ℕ) (st₀ : Stretch) where
  pub cut-none : Counting row st₀ → first ≤ end → Cut row slice first end st₀ st₀ first
  cut-none c h = record { counting = c; from = omega arith; upto = h; is = counted_none row slice st₀ first }

  pub cut-more : (st : Stretch) (p : ℕ) → Cut row slice first end st₀ st p → (n z : ℕ) (st' : Stretch) → end ≤ 8 * length slice → p < end
      → n ≡ min (row.digits - st.digits) (end - p) → z ≡ zeros_in (between slice p (p + n)) → z ≤ p + n - p → st' ≡ added row st n z
      → Cut row slice first end st₀ st' (p + n)
  cut-more st p c n z st' within room en ez few est =
      let size : length (between slice p (p + n)) ≡ n = between-length slice p (p + n) (omega arith) ∙ omega arith in
      let fits : st.digits + n ≤ row.digits = omega (arith, c.counting.within) in
      let grown : counted row st (between slice p (p + n)) ≡ added row st n z =
      counted-added row (between slice p (p + n)) st (omega (arith, c.counting.within)) (omega arith) ∙ rw (size, ← ez) in
      record {
        counting = rw est (added-counting row st n z c.counting fits (omega arith));
        from = omega (arith, c.from);
        upto = omega arith;
        is = est ∙ sym grown ∙ ap (λ (s : Stretch). counted row s (between slice p (p + n))) c.is
            ∙ sym (counted-join row slice st₀ first p (p + n) c.from (omega arith));
      }

  pub cut-end : (st : Stretch) (p : ℕ) → Cut row slice first end st₀ st p → end ≤ p → st ≡ counted row st₀ (between slice first end)
  cut-end st p c h =
      let e : p ≡ end = omega (arith, c.upto) in
      rw e at c.is
