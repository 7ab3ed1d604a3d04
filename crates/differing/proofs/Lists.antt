-- The list that a comparison leaves shows every differing digit up to its length, and no other: entry after entry it is the list of differing places.
use mathlib.Core.Path.{◌≡◌, refl, ◌∙◌, ap}
use mathlib.Core.Bool.{Bool}
use mathlib.Core.List.{List, [], ◌∷◌, ◌++◌}
use Prim.Native.Nat.{ℕ, zero, suc, ◌+◌, ◌-◌, ◌*◌, ◌/◌, ◌%◌, ◌≤◌, ◌<◌, min}
use native.Mathlib.Omega.{arith}
use native.Mathlib.Nat.{div-add-mod', mod-lt}
use lib.ListN.{length, get_or, take, replicate, length-take, get_or-append}
use lib.Seq.{get_or-append-add, get_or-take}
use Rattle.digits.proofs.Laws.{zeros-at}
use Rattle.table.specs.declared.Row.{Row}
use Rattle.tally.specs.Tally.{all_of}
use Rattle.differing.specs.Differing.{places_to, pairs_of, list_of}
use Rattle.differing.specs.Promises.{entry_of, Lists}
use Rattle.differing.proofs.Listing.{places-length, pairs-length}
use Rattle.differing.proofs.Picked.{picked, place_is, places-rise}

module _ (row : Row) (some : 0 < row.digits) where
  record Pair (pairs : List ℕ) (i p : ℕ) : Type 0 where
    pub frame : get_or pairs (2 * i) 0 ≡ p / row.digits
    pub place : get_or pairs (2 * i + 1) 0 ≡ p % row.digits

  pair-at : (ps : List ℕ) (i : ℕ) → i < length ps → Pair (pairs_of row ps) i (get_or ps i 0)
  unfolding pairs_of
  pair-at [] i h = absurd (none h)
    where
      none : i < 0 → ⊥
      none h = omega arith
  pair-at (p ∷ ps) zero h = record { frame = refl; place = refl }
  pair-at (p ∷ ps) (suc i) h =
      let d = pair-at ps i (omega arith) in
      let a : 2 * suc i ≡ suc (suc (2 * i)) = omega arith in
      let b : suc (suc (2 * i)) + 1 ≡ suc (suc (2 * i + 1)) = omega arith in
      record { frame = rw a d.frame; place = rw (a, b) d.place }

  module _ (ps : List ℕ) where
    abbrev first : List ℕ
    first = take 64 ps

    front : (k : ℕ) → k < 2 * length first → get_or (list_of row ps) k 0 ≡ get_or (pairs_of row first) k 0
    unfolding list_of
    front k h = get_or-append (pairs_of row first) (replicate (128 - 2 * length first) 0) 0 k (omega (arith, pairs-length row first))

    back : (k : ℕ) → 2 * length first ≤ k → get_or (list_of row ps) k 0 ≡ 0
    unfolding list_of
    back k h =
        let e : k ≡ length (pairs_of row first) + (k - 2 * length first) = omega (arith, pairs-length row first) in
        ap (λ (j : ℕ). get_or (pairs_of row first ++ replicate (128 - 2 * length first) 0) j 0) e
        ∙ get_or-append-add (pairs_of row first) (replicate (128 - 2 * length first) 0) (k - 2 * length first) 0
        ∙ zeros-at (128 - 2 * length first) (k - 2 * length first)

    few : length first ≡ min 64 (length ps)
    few = length-take 64 ps

    entry-pair : (i : ℕ) → i < length first → Pair (list_of row ps) i (get_or ps i 0)
    entry-pair i h =
        let d = rw (get_or-take 64 ps i 0 (omega (arith, few))) at (pair-at first i h) in
        record { frame = front (2 * i) (omega arith) ∙ d.frame; place = front (2 * i + 1) (omega arith) ∙ d.place }

    entry-is : (i : ℕ) → i < length first → entry_of row (list_of row ps) i ≡ get_or ps i 0
    entry-is i h = let d = entry-pair i h in rw (d.frame, d.place) (div-add-mod' (get_or ps i 0) row.digits)

  pub lists-all : (test : ℕ → Bool) (n : ℕ) → Lists row test n (length (take 64 (places_to test n))) (list_of row (places_to test n))
  lists-all test n =
      record {
        in_frame = λ i h. rw (entry-pair ps i h).place (mod-lt (get_or ps i 0) some);
        in_line = λ i h. rw (entry-is ps i h) (picked test n i (before i h)).within;
        differs = λ i h. rw (entry-is ps i h) (picked test n i (before i h)).is_true;
        rises = λ i k u h. rw (entry-is ps i (omega arith), entry-is ps k h) (places-rise test n i k u (before k h));
        complete = λ p h c u. entry-is ps (all_of test p) u ∙ place_is test n p h c;
        zeros_after = λ i h. (back ps (2 * i) (omega arith), back ps (2 * i + 1) (omega arith));
      }
    where
      ps : List ℕ
      ps = places_to test n

      before : (i : ℕ) → i < length (take 64 ps) → i < all_of test n
      before i h = omega (arith, few ps, places-length test n)
