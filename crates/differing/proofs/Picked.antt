-- The places at which a test is true, in order: place i of the list is true and has i true ones before it, and a true place with i before it is place
-- i of the list. So the list rises, and holds every true place.
use mathlib.Core.Path.{◌≡◌, refl, ◌∙◌}
use mathlib.Core.Bool.{Bool, cond, true, false}
use mathlib.Core.List.{[], ◌∷◌, ◌++◌, append-nil}
use Prim.Native.Nat.{ℕ, zero, suc, ◌+◌, ◌≤◌, ◌<◌}
use native.Mathlib.Omega.{arith}
use native.Mathlib.Decide.{dec_lt, dec_le}
use lib.ListN.{get_or, get_or-append}
use lib.Seq.{get_or_at}
use Rattle.digits.specs.Sums.{sum_to}
use Rattle.tally.specs.Tally.{all_of}
use Rattle.differing.specs.Differing.{places_to}
use Rattle.differing.proofs.Listing.{places-length}

module _ (test : ℕ → Bool) where
  pub all-rises : (x y : ℕ) → x ≤ y → all_of test x ≤ all_of test y
  unfolding sum_to
  all-rises x zero h = let e : x ≡ 0 = omega arith in rw e (omega arith)
  all-rises x (suc y) h =
      elim (dec_le x y) [
        | yes a ↦ omega (arith, all-rises x y a)
        | no a ↦ let e : x ≡ suc y = omega arith in rw e (omega arith)
      ]

  -- place p is number i of those before n
  pub record Picked (n i p : ℕ) : Type 0 where
    pub within : p < n
    pub is_true : test p ≡ true
    pub number : all_of test p ≡ i

  one_more : (n i : ℕ) (t : Bool) → test n ≡ t → (i < all_of test n → Picked n i (get_or (places_to test n) i 0)) → i < all_of test n + cond t 1 0
      → Picked (suc n) i (get_or (places_to test n ++ cond t (n ∷ []) []) i 0)
  one_more n i false e earlier h =
      let d = earlier (omega arith) in
      rw (append-nil (places_to test n)) (record { within = omega (arith, d.within); is_true = d.is_true; number = d.number })
  one_more n i true e earlier h =
      elim (dec_lt i (all_of test n)) [
        | yes a ↦
            let d = earlier a in
            rw (get_or-append (places_to test n) (n ∷ []) 0 i (omega (arith, places-length test n)))
            (record { within = omega (arith, d.within); is_true = d.is_true; number = d.number })
        | no a ↦
            let last : all_of test n ≡ i = omega arith in
            rw (get_or_at (places_to test n) n [] 0 i (places-length test n ∙ last)) (record { within = omega arith; is_true = e; number = last })
      ]

  pub picked : (n i : ℕ) → i < all_of test n → Picked n i (get_or (places_to test n) i 0)
  unfolding sum_to places_to
  picked zero i h = absurd (none h)
    where
      none : i < 0 → ⊥
      none h = omega arith
  picked (suc n) i h = one_more n i (test n) refl (picked n i) h

  pub place_is : (n p : ℕ) → p < n → test p ≡ true → get_or (places_to test n) (all_of test p) 0 ≡ p
  unfolding sum_to places_to
  place_is zero p h c = absurd (none h)
    where
      none : p < 0 → ⊥
      none h = omega arith
  place_is (suc n) p h c =
      elim (dec_lt p n) [
        | yes a ↦
            let up = all-rises (suc p) n a in
            let one : cond {A = ℕ} (test p) 1 0 ≡ 1 = rw c in
            get_or-append (places_to test n) (cond (test n) (n ∷ []) []) 0 (all_of test p) (omega (arith, places-length test n, up, one)) ∙ place_is n p a c
        | no a ↦
            let e : p ≡ n = omega arith in
            let c' : test n ≡ true = rw e at c in
            rw (e, c') (get_or_at (places_to test n) n [] 0 (all_of test n) (places-length test n))
      ]

  pub places-rise : (n i k : ℕ) → i < k → k < all_of test n → get_or (places_to test n) i 0 < get_or (places_to test n) k 0
  places-rise n i k h hk =
      let a = picked n i (omega arith) in
      let b = picked n k hk in
      elim (dec_lt (get_or (places_to test n) i 0) (get_or (places_to test n) k 0)) [
        | yes up ↦ up
        | no down ↦ omega (arith, all-rises (get_or (places_to test n) k 0) (get_or (places_to test n) i 0) (omega arith), a.number, b.number)
      ]

-- tests that agree pick the same places
pub places-agree : (test other : ℕ → Bool) (n : ℕ) → ((p : ℕ) → p < n → test p ≡ other p) → places_to test n ≡ places_to other n
unfolding places_to
places-agree test other zero e = refl
places-agree test other (suc n) e = rw (places-agree test other n (λ p h. e p (omega arith)), e n (omega arith)) refl
