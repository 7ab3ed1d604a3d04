-- The order of a tributary's digits goes by what the line's frames do for it and by nothing else, and that by its votes; and the digits come back in it.
use mathlib.Core.Path.{◌≡◌, refl, sym, ◌∙◌, ap}
use mathlib.Core.Bool.{Bool, cond, true, false}
use mathlib.Core.List.{List, [], ◌∷◌, ◌++◌, map, append-nil}
use Prim.Native.Nat.{ℕ, zero, suc, ◌+◌, ◌*◌, ◌-◌, ◌≤◌, ◌<◌}
use native.Mathlib.Omega.{arith}
use native.Mathlib.Nat.{lt_of_mul-lt-mul_right, add-zero}
use native.Mathlib.Numerals.{add-one}
use lib.ListN.{length, get_or, take}
use lib.Seq.{take-suc}
use Rattle.digits.proofs.Laws.{map-append}
use Rattle.digits.proofs.Sums.{sum_same}
use Rattle.table.specs.declared.Row.{Row}
use Rattle.levels.specs.Table.{Shared}
use Rattle.levels.specs.Places.{pos_of}
use Rattle.levels.specs.declared.order.Action.{Action}
use Rattle.levels.specs.Order.{stuffed, decisions, actions, is_stuffed, both_carry, carries, before, places_of, stuffed_to, negative_to, count_of}
use Rattle.levels.proofs.Positions.{stands}
use Rattle.levels.proofs.Columns.{columns, frame-start}
use Rattle.levels.proofs.Inverse.{places-length}

module _ (row : Row) (sh : Shared row) (F j : ℕ) (jh : j < 4) where
  -- column x of a line of F frames
  module _ (x : ℕ) (h : x < F * columns row) where
    pub column-place : 4 * x + j < F * row.digits
    column-place = omega (arith, frame-start row sh j jh F)

    pub column-frame : (pos_of row (4 * x + j)).frame < F
    column-frame = lt_of_mul-lt-mul_right row.digits (omega (arith, column-place, (stands row sh (4 * x + j)).sum))

  module _ (d e : ℕ → Action) (same : (f : ℕ) → f < F → d f ≡ e f) where
    pub carries_same : (x : ℕ) → x < F * columns row → carries row d (4 * x + j) ≡ carries row e (4 * x + j)
    unfolding carries
    carries_same x h = rw (same (pos_of row (4 * x + j)).frame (column-frame x h))

    pub places_same : (x : ℕ) → x ≤ F * columns row → places_of row d j x ≡ places_of row e j x
    unfolding places_of
    places_same zero h = refl
    places_same (suc x) h = rw (places_same x (omega arith), carries_same x h)

    pub before_same : (x : ℕ) → x ≤ F * columns row → before row d j x ≡ before row e j x
    before_same x h = sym (places-length row d j x) ∙ ap length (places_same x h) ∙ places-length row e j x

-- the counts too
pub count_same : (row : Row) (d e : ℕ → Action) (F : ℕ) → ((f : ℕ) → f < F → d f ≡ e f) → count_of row d F ≡ count_of row e F
unfolding count_of
count_same row d e F same =
    let stuffed-same : stuffed_to d F ≡ stuffed_to e F =
    sum_same F (λ (f : ℕ). cond (is_stuffed (d f)) 1 0) (λ (f : ℕ). cond (is_stuffed (e f)) 1 0) (λ f h. rw (same f h)) in
    let more = row.room - row.n in
    let negative-same : negative_to row d F ≡ negative_to row e F =
    sum_same F (λ (f : ℕ). cond (both_carry (d f)) more 0) (λ (f : ℕ). cond (both_carry (e f)) more 0) (λ f h. rw (same f h)) in
    rw (stuffed-same, negative-same)

-- what the frames do for tributary j goes by its votes, and by its bit of the vote before them
pub actions-same : (row : Row) (x y : ℕ) (a b : List ℕ) (j F : ℕ) → stuffed x j ≡ stuffed y j → ((f : ℕ) → f < F → decisions a j f ≡ decisions b j f)
    → (f : ℕ) → f < F → actions row x a j f ≡ actions row y b j f
actions-same row x y a b j F first same zero h = rw (first, same 0 h)
actions-same row x y a b j F first same (suc f) h = rw (same f (omega arith), same (suc f) h)

module _ (row : Row) (d : ℕ → Action) (j : ℕ) where
  -- the digits that stand at the carrying places of the first x columns
  abbrev digits_at : List ℕ → ℕ → List ℕ
  digits_at ds x = map (λ (p : ℕ). get_or ds p 0) (places_of row d j x)

  abbrev at : ℕ → Bool
  at x = carries row d (4 * x + j)

  one_more : (ds : List ℕ) (x : ℕ) → digits_at ds (suc x) ≡ digits_at ds x ++ cond (at x) (get_or ds (4 * x + j) 0 ∷ []) []
  unfolding places_of
  one_more ds x = map-append (λ (p : ℕ). get_or ds p 0) (places_of row d j x) (cond (at x) ((4 * x + j) ∷ []) []) ∙ ap (λ (l : List ℕ). digits_at ds x ++ l) (go (at x))
    where
      go : (t : Bool) → map (λ (p : ℕ). get_or ds p 0) (cond t ((4 * x + j) ∷ []) []) ≡ cond t (get_or ds (4 * x + j) 0 ∷ []) []
      go true = refl
      go false = refl

  -- lines with the same digits in the tributary's columns that carry one
  pub digits_same : (ds es : List ℕ) (x : ℕ) → ((y : ℕ) → y < x → at y ≡ true → get_or ds (4 * y + j) 0 ≡ get_or es (4 * y + j) 0) → digits_at ds x ≡ digits_at es x
  unfolding places_of
  digits_same ds es zero h = refl
  digits_same ds es (suc x) h =
      rw (one_more ds x, one_more es x, digits_same ds es x (λ y hy. h y (omega arith))) (ap (λ (l : List ℕ). digits_at es x ++ l) (go (at x) (h x (omega arith))))
    where
      go : (t : Bool) → (t ≡ true → get_or ds (4 * x + j) 0 ≡ get_or es (4 * x + j) 0) → cond t (get_or ds (4 * x + j) 0 ∷ []) [] ≡ cond t (get_or es (4 * x + j) 0 ∷ []) []
      go true same = rw (same refl)
      go false same = refl

  -- where every carrying place has the tributary's next digit, the digits come back in order
  pub digits-back : (ds t : List ℕ) (x : ℕ) → ((y : ℕ) → y < x → at y ≡ true → get_or ds (4 * y + j) 0 ≡ get_or t (before row d j y) 0)
      → before row d j x ≤ length t → digits_at ds x ≡ take (before row d j x) t
  unfolding before places_of
  digits-back ds t zero h room = refl
  digits-back ds t (suc x) h room =
      rw (one_more ds x, digits-back ds t x (λ y hy. h y (omega arith)) (omega arith)) (go (at x) (h x (omega arith)) room)
    where
      n : ℕ
      n = before row d j x

      go : (c : Bool) → (c ≡ true → get_or ds (4 * x + j) 0 ≡ get_or t n 0) → n + cond c 1 0 ≤ length t
          → take n t ++ cond c (get_or ds (4 * x + j) 0 ∷ []) [] ≡ take (n + cond c 1 0) t
      go true e r = rw (e refl, add-one n) (sym (take-suc t n 0 (omega arith)))
      go false e r = rw (add-zero n) (append-nil (take n t))
