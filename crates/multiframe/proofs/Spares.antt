-- The places of the spare digits, in order: the table of src/lib.rt is read off the definition, a place for each spare digit.
use mathlib.Core.Path.{◌≡◌, refl, sym, ap, ◌∙◌}
use mathlib.Core.Bool.{Bool, cond, true, false}
use mathlib.Core.List.{List, [], ◌∷◌, ◌++◌}
use Prim.Native.Nat.{ℕ, zero, suc, ◌+◌, ◌≤◌, ◌<◌}
use native.Mathlib.Omega.{arith}
use native.Mathlib.Decide.{dec_lt, ℕ_discrete}
use lib.ListN.{length, get_or, length-append, get_or-append}
use lib.Seq.{get_or-append-add}
use Rattle.multiframe.specs.Steps.{spare_table}
use Rattle.multiframe.specs.Multiframe.{kind_at, is_spare, spares_before}

-- the places below n that are spare
unfoldable pub spare_places : ℕ → List ℕ
spare_places zero = []
spare_places (suc n) = spare_places n ++ cond (is_spare (kind_at n)) (n ∷ []) []

abbrev pub table : List ℕ
table = spare_table

pub table_is : spare_places 4096 ≡ table
unfolding spare_places kind_at
table_is = refl

-- as many as stand before place n
pub spare-count : (n : ℕ) → length (spare_places n) ≡ spares_before n
unfolding spare_places spares_before
spare-count zero = refl
spare-count (suc n) = length-append (spare_places n) (cond (is_spare (kind_at n)) (n ∷ []) []) ∙ more (is_spare (kind_at n)) (spare-count n)
  where
    more : (t : Bool) → length (spare_places n) ≡ spares_before n → length (spare_places n) + length (cond t (n ∷ []) []) ≡ spares_before n + cond t 1 0
    more true e = omega arith
    more false e = omega arith

-- the place that follows so many spare ones
pub spare-next : (n : ℕ) → is_spare (kind_at n) ≡ true → get_or (spare_places (suc n)) (spares_before n) 0 ≡ n
unfolding spare_places
spare-next n e =
    let l : spares_before n ≡ length (spare_places n) + 0 = omega (arith, spare-count n) in
    rw (e, l) (get_or-append-add (spare_places n) (n ∷ []) 0 0)

-- places that are there stay where they are
pub spare-kept : (n i : ℕ) → i < spares_before n → get_or (spare_places (suc n)) i 0 ≡ get_or (spare_places n) i 0
unfolding spare_places
spare-kept n i h = get_or-append (spare_places n) (cond (is_spare (kind_at n)) (n ∷ []) []) 0 i (omega (arith, spare-count n))

-- a spare place is found by the number of spare places before it
pub spare-found : (n p : ℕ) → p < n → is_spare (kind_at p) ≡ true → (spares_before p < spares_before n) × (get_or (spare_places n) (spares_before p) 0 ≡ p)
unfolding spares_before
spare-found zero p h e = absurd (nothing h)
  where
    nothing : p < 0 → ⊥
    nothing h = omega arith
spare-found (suc n) p h e =
    elim (ℕ_discrete p n) [
      | yes it ↦ here it
      | no far ↦
          elim (dec_lt p n) [
            | yes l ↦
                let w = spare-found n p l e in
                (omega (arith, w.0), spare-kept n (spares_before p) w.0 ∙ w.1)
            | no l ↦ absurd (far (omega arith))
          ]
    ]
  where
    here : p ≡ n → (spares_before p < spares_before (suc n)) × (get_or (spare_places (suc n)) (spares_before p) 0 ≡ p)
    here it =
        let e' : is_spare (kind_at n) ≡ true = rw it at e in
        rw it (rw e' (omega arith), spare-next n e')

-- and each place of the list is a spare one with so many before it
pub record SpareAt (n i p : ℕ) : Type 0 where
  pub below : p < n
  pub spare : is_spare (kind_at p) ≡ true
  pub number : spares_before p ≡ i

pub spare-there : (n i : ℕ) → i < spares_before n → SpareAt n i (get_or (spare_places n) i 0)
unfolding spares_before
spare-there zero i h = absurd (nothing h)
  where
    nothing : i < 0 → ⊥
    nothing h = omega arith
spare-there (suc n) i h =
    elim (dec_lt i (spares_before n)) [
      | yes l ↦
          let w = spare-there n i l in
          rw (spare-kept n i l) (record { below = omega (arith, w.below); spare = w.spare; number = w.number })
      | no l ↦ last (is_spare (kind_at n)) refl h (omega arith)
    ]
  where
    last : (t : Bool) → is_spare (kind_at n) ≡ t → i < spares_before n + cond t 1 0 → spares_before n ≤ i → SpareAt (suc n) i (get_or (spare_places (suc n)) i 0)
    last true e h g =
        let it : i ≡ spares_before n = omega arith in
        rw (it, spare-next n e) (record { below = omega arith; spare = e; number = refl })
    last false e h g = absurd (over h g)
      where
        over : i < spares_before n + 0 → spares_before n ≤ i → ⊥
        over h g = omega arith

-- ---- the table

pub all-spares : spares_before 4096 ≡ 68
all-spares = sym (spare-count 4096) ∙ ap length table_is

pub table-found : (p : ℕ) → p < 4096 → is_spare (kind_at p) ≡ true → (spares_before p < 68) × (get_or table (spares_before p) 0 ≡ p)
table-found p h e =
    let w = spare-found 4096 p h e in
    (omega (arith, w.0, all-spares), rw table_is at w.1)

pub table-there : (i : ℕ) → i < 68 → SpareAt 4096 i (get_or table i 0)
table-there i h = rw table_is at (spare-there 4096 i (omega (arith, all-spares)))
