-- Laws of the fifteen sums, of any test and over any row: one place more, none, all of them together.
use mathlib.Core.Path.{◌≡◌, refl, sym, ◌∙◌, ap}
use mathlib.Core.Bool.{Bool, cond, true, false, ◌&&◌}
use mathlib.Core.List.{List}
use Prim.Native.Nat.{ℕ, zero, suc, ◌+◌, ◌%◌, ◌≤◌, ◌<◌}
use native.Mathlib.Omega.{arith}
use native.Mathlib.Decide.{ℕ_discrete, dec_lt}
use native.Mathlib.Numerals.{add-one}
use native.Mathlib.Nat.{mod-lt, mod-eq_of_lt}
use lib.Dec.{eqb}
use lib.ListN.{length, get_or, replicate, length-set, get_or-eq_default}
use lib.Seq.{ext_get_or, get_or-set_same, get_or-set_other}
use borrow.Author.Tests.{eq-eqb, ne_eqb}
use Rattle.digits.specs.Digits.{tab}
use Rattle.digits.specs.Sums.{sum_to}
use Rattle.digits.proofs.Laws.{tab-length, tab-at}
use Rattle.digits.proofs.Sums.{sum_same, sum-most, sum-all}
use Rattle.table.specs.declared.Row.{Row}
use Rattle.levels.specs.declared.places.Kind.{Kind}
use Rattle.levels.specs.declared.places.Kind.TheVariants.{Word, Service, Control, Justification, Tributary}
use Rattle.levels.specs.declared.places.ServiceDigit.{ServiceDigit}
use Rattle.levels.specs.declared.places.ServiceDigit.TheVariants.{RemoteAlarm, FirstNational, SecondNational, ThirdNational, Fixed}
use Rattle.levels.specs.Table.{Shared}
use Rattle.levels.specs.Places.{kind_at, pos_of}
use Rattle.tally.specs.Tally.{service_number, sum_number, number_at, all_of, sum_of, sums_of, one_more}

-- ---- a place and the place in its frame

pub in_frame : (row : Row) → Shared row → (p : ℕ) → p % row.digits < row.digits
in_frame row sh p = mod-lt p (omega (arith, sh.counted, sh.later_set))

pub kind-in-frame : (row : Row) → Shared row → (p : ℕ) → kind_at row (p % row.digits) ≡ kind_at row p
unfolding pos_of
kind-in-frame row sh p = rw (mod-eq_of_lt (in_frame row sh p))

-- ---- every place counts in exactly one of the fifteen

service-in : (s : ServiceDigit) → service_number s < 15
service-in RemoteAlarm = omega arith
service-in FirstNational = omega arith
service-in SecondNational = omega arith
service-in ThirdNational = omega arith
service-in Fixed = omega arith

number_in : (k : Kind) (j : ℕ) → j < 4 → sum_number k j < 15
number_in Word j h = omega arith
number_in (Service s) j h = service-in s
number_in Control j h = omega arith
number_in (Justification sign) j h = omega arith
number_in Tributary j h = omega arith

pub number-at-in : (row : Row) (p : ℕ) → number_at row p < 15
unfolding number_at
number-at-in row p = number_in (kind_at row p) (p % 4) (omega arith)

-- ---- one place more

abbrev unit : Bool → ℕ
unit t = cond t 1 0

unit-small : (t : Bool) → unit t ≤ 1
unit-small true = omega arith
unit-small false = omega arith

-- a sum of sums
sum-plus : (n : ℕ) (g h : ℕ → ℕ) → sum_to n (λ (i : ℕ). g i + h i) ≡ sum_to n g + sum_to n h
unfolding sum_to
sum-plus zero g h = refl
sum-plus (suc n) g h = omega (arith, sum-plus n g h)

-- a number below n is exactly one of the first n
one_of : (n m : ℕ) → m < n → sum_to n (λ (k : ℕ). unit (eqb m k)) ≡ 1
unfolding sum_to
one_of zero m h = omega arith
one_of (suc n) m h =
    elim (ℕ_discrete m n) [
      | yes e ↦ rw (e, eq-eqb n n refl) (omega (arith, sum-all n 0 (λ (k : ℕ). unit (eqb n k)) (λ k hk. rw (ne_eqb n k (λ q. omega arith)) refl)))
      | no e ↦ rw (ne_eqb m n e) (omega (arith, one_of n m (omega arith)))
    ]

module _ (row : Row) (test : ℕ → Bool) where
  pub sums-length : (n : ℕ) → length (sums_of row test n) ≡ 15
  unfolding sums_of
  sums-length n = tab-length 15 0 (sum_of row test n)

  pub sums_at : (n k : ℕ) → k < 15 → get_or (sums_of row test n) k 0 ≡ sum_of row test n k
  unfolding sums_of
  sums_at n k h = tab-at 15 0 (sum_of row test n) k h ∙ ap (sum_of row test n) plus
    where
      plus : 0 + k ≡ k
      plus = omega arith

  all-suc : (p : ℕ) → all_of test (suc p) ≡ all_of test p + unit (test p)
  unfolding sum_to
  all-suc p = refl

  sum-suc : (p k : ℕ) → sum_of row test (suc p) k ≡ sum_of row test p k + unit (test p && eqb (number_at row p) k)
  unfolding sum_to
  sum-suc p k = refl

  pub all_more : (p : ℕ) → all_of test (p + 1) ≡ all_of test p + cond (test p) 1 0
  unfolding sum_to
  all_more p = rw (add-one p) refl

  sum_more : (p k : ℕ) → sum_of row test (p + 1) k ≡ sum_of row test p k + cond (test p && eqb (number_at row p) k) 1 0
  unfolding sum_to
  sum_more p k = rw (add-one p) refl

  -- where the test is false nothing changes, where it is true the place's own sum has one more
  pub sums_same : (p : ℕ) → test p ≡ false → sums_of row test (p + 1) ≡ sums_of row test p
  sums_same p e =
      ext_get_or 0 (sums_of row test (p + 1)) (sums_of row test p) (sums-length (p + 1) ∙ sym (sums-length p))
      (λ k h. let hk : k < 15 = omega (arith, sums-length (p + 1)) in sums_at (p + 1) k hk ∙ sum_more p k ∙ rw e (omega arith) ∙ sym (sums_at p k hk))

  pub sums-more : (p : ℕ) → test p ≡ true → sums_of row test (p + 1) ≡ one_more (sums_of row test p) (number_at row p)
  sums-more p e =
      ext_get_or 0 (sums_of row test (p + 1)) (one_more (sums_of row test p) n)
      (sums-length (p + 1) ∙ sym (length-set (sums_of row test p) n (get_or (sums_of row test p) n 0 + 1) ∙ sums-length p))
      (λ k h. at k (omega (arith, sums-length (p + 1))))
    where
      n : ℕ
      n = number_at row p

      sums : List ℕ
      sums = sums_of row test p

      none_more : (x : ℕ) → x ≡ x + 0
      none_more x = omega arith

      at : (k : ℕ) → k < 15 → get_or (sums_of row test (p + 1)) k 0 ≡ get_or (one_more (sums_of row test p) n) k 0
      at k h =
          elim (ℕ_discrete k n) [
            | yes same ↦
                let put = get_or-set_same sums n (get_or sums n 0 + 1) 0 (omega (arith, sums-length p, number-at-in row p)) in
                sums_at (p + 1) k h ∙ sum_more p k ∙ rw (e, same, eq-eqb n n refl) (sym (put ∙ rw (sums_at p n (number-at-in row p)) refl))
            | no other ↦
                let kept = get_or-set_other sums n k (get_or sums n 0 + 1) 0 other in
                sums_at (p + 1) k h ∙ sum_more p k ∙ rw (e, ne_eqb n k (λ q. other (sym q))) (sym (kept ∙ sums_at p k h ∙ none_more (sum_of row test p k)))
          ]

  -- ---- before any place, where nothing is counted, and how large a sum can be

  pub sums_none : sums_of row test 0 ≡ replicate 15 0
  unfolding sums_of sum_to tab
  sums_none = refl

  pub sum-small : (n k : ℕ) → get_or (sums_of row test n) k 0 ≤ n
  sum-small n k =
      elim (dec_lt k 15) [
        | yes h ↦
            omega (
              arith,
              sums_at n k h,
              sum-most n 1 (λ (p : ℕ). unit (test p && eqb (number_at row p) k)) (λ i _. unit-small (test i && eqb (number_at row i) k)),
            )
        | no h ↦ omega (arith, get_or-eq_default (sums_of row test n) 0 {n = k} (omega (arith, sums-length n)))
      ]

  -- ---- the fifteen add up to all

  adds_one : (p : ℕ) (t : Bool) → sum_to 15 (λ (k : ℕ). unit (t && eqb (number_at row p) k)) ≡ unit t
  adds_one p true = one_of 15 (number_at row p) (number-at-in row p)
  adds_one p false = sum-all 15 0 (λ (k : ℕ). 0) (λ i _. refl)

  sums-add : (n : ℕ) → sum_to 15 (sum_of row test n) ≡ all_of test n
  unfolding sum_to
  sums-add zero = refl
  sums-add (suc n) =
      sum_same 15 (sum_of row test (suc n)) (λ (k : ℕ). sum_of row test n k + unit (test n && eqb (number_at row n) k)) (λ k _. sum-suc n k)
      ∙ sum-plus 15 (sum_of row test n) (λ (k : ℕ). unit (test n && eqb (number_at row n) k))
      ∙ rw (sums-add n, adds_one n (test n)) (sym (all-suc n))

  pub adds-up : (n : ℕ) → sum_to 15 (λ (k : ℕ). get_or (sums_of row test n) k 0) ≡ all_of test n
  adds-up n = sum_same 15 (λ (k : ℕ). get_or (sums_of row test n) k 0) (sum_of row test n) (λ k h. sums_at n k h) ∙ sums-add n

-- tests that agree have the same sums
pub sums-agree : (row : Row) (test other : ℕ → Bool) (n : ℕ) → ((p : ℕ) → p < n → test p ≡ other p) → sums_of row test n ≡ sums_of row other n
sums-agree row test other n e =
    ext_get_or 0 (sums_of row test n) (sums_of row other n) (sums-length row test n ∙ sym (sums-length row other n))
    (λ k h.
    let hk : k < 15 = omega (arith, sums-length row test n) in
    sums_at row test n k hk
    ∙ sum_same n (λ (p : ℕ). unit (test p && eqb (number_at row p) k)) (λ (p : ℕ). unit (other p && eqb (number_at row p) k)) (λ p hp. rw (e p hp) refl)
    ∙ sym (sums_at row other n k hk))

pub all-agree : (test other : ℕ → Bool) (n : ℕ) → ((p : ℕ) → p < n → test p ≡ other p) → all_of test n ≡ all_of other n
all-agree test other n e = sum_same n (λ (p : ℕ). unit (test p)) (λ (p : ℕ). unit (other p)) (λ p hp. rw (e p hp) refl)
