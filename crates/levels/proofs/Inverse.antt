-- Which digit a place carries and at which place a digit stands are each the inverse of the other, and the places rise.
use mathlib.Core.Path.{◌≡◌, refl, ◌∙◌, ap}
use mathlib.Core.Bool.{Bool, cond, true, false}
use mathlib.Core.List.{List, [], ◌∷◌, ◌++◌, append-nil}
use Prim.Native.Nat.{ℕ, zero, suc, ◌+◌, ◌*◌, ◌≤◌, ◌<◌}
use native.Mathlib.Omega.{arith}
use native.Mathlib.Decide.{dec_lt, dec_le}
use lib.ListN.{length, get_or, length-append, get_or-append}
use lib.Seq.{get_or_at}
use Rattle.table.specs.declared.Row.{Row}
use Rattle.levels.specs.declared.order.Action.{Action}
use Rattle.levels.specs.Order.{carries, before, places_of}

module _ (row : Row) (acts : ℕ → Action) (j : ℕ) where
  abbrev at : ℕ → Bool
  at x = carries row acts (4 * x + j)

  abbrev count : ℕ → ℕ
  count x = before row acts j x

  abbrev places : ℕ → List ℕ
  places x = places_of row acts j x

  pub places-length : (x : ℕ) → length (places x) ≡ count x
  unfolding places_of before
  places-length zero = refl
  places-length (suc x) = length-append (places x) (cond (at x) ((4 * x + j) ∷ []) []) ∙ rw (places-length x) (ap (λ (k : ℕ). count x + k) (one (at x)))
    where
      one : (t : Bool) → length (cond t ((4 * x + j) ∷ []) []) ≡ cond t 1 0
      one true = refl
      one false = refl

  pub before-rises : (x y : ℕ) → x ≤ y → count x ≤ count y
  unfolding before
  before-rises x zero h = let e : x ≡ 0 = omega arith in rw e (omega arith)
  before-rises x (suc y) h =
      elim (dec_le x y) [
        | yes a ↦ omega (arith, before-rises x y a)
        | no a ↦ let e : x ≡ suc y = omega arith in rw e (omega arith)
      ]

  -- digit i of the first x columns stands at place p: in a column that carries it, with i digits before
  pub record Digit (x i p : ℕ) : Type 0 where
    pub column : ℕ
    pub within : column < x
    pub place : p ≡ 4 * column + j
    pub carrying : at column ≡ true
    pub number : count column ≡ i

  one_more : (x i : ℕ) (t : Bool) → at x ≡ t → (i < count x → Digit x i (get_or (places x) i 0)) → i < count x + cond t 1 0
      → Digit (suc x) i (get_or (places x ++ cond t ((4 * x + j) ∷ []) []) i 0)
  one_more x i false e earlier h =
      let d = earlier (omega arith) in
      rw (append-nil (places x)) (record { column = d.column; within = omega (arith, d.within); place = d.place; carrying = d.carrying; number = d.number })
  one_more x i true e earlier h =
      elim (dec_lt i (count x)) [
        | yes a ↦
            let d = earlier a in
            rw (get_or-append (places x) ((4 * x + j) ∷ []) 0 i (omega (arith, places-length x)))
            (record { column = d.column; within = omega (arith, d.within); place = d.place; carrying = d.carrying; number = d.number })
        | no a ↦
            let last : count x ≡ i = omega arith in
            rw (get_or_at (places x) (4 * x + j) [] 0 i (places-length x ∙ last))
            (record { column = x; within = omega arith; place = refl; carrying = e; number = last })
      ]

  -- the place at which a digit stands carries that digit
  pub place-of-digit : (x i : ℕ) → i < count x → Digit x i (get_or (places x) i 0)
  unfolding before places_of
  place-of-digit zero i h = absurd (none h)
    where
      none : i < 0 → ⊥
      none h = omega arith
  place-of-digit (suc x) i h = one_more x i (at x) refl (place-of-digit x i) h

  -- the digit that a place carries stands at that place
  pub digit-of-place : (x y : ℕ) → y < x → at y ≡ true → get_or (places x) (count y) 0 ≡ 4 * y + j
  unfolding before places_of
  digit-of-place zero y h c = absurd (none h)
    where
      none : y < 0 → ⊥
      none h = omega arith
  digit-of-place (suc x) y h c =
      elim (dec_lt y x) [
        | yes a ↦
            let up = before-rises (suc y) x a in
            let one : cond {A = ℕ} (at y) 1 0 ≡ 1 = rw c in
            get_or-append (places x) (cond (at x) ((4 * x + j) ∷ []) []) 0 (count y) (omega (arith, places-length x, up, one)) ∙ digit-of-place x y a c
        | no a ↦
            let e : y ≡ x = omega arith in
            let c' : at x ≡ true = rw e at c in
            rw (e, c') (get_or_at (places x) (4 * x + j) [] 0 (count x) (places-length x))
      ]

  pub places-rise : (x i k : ℕ) → i < k → k < count x → get_or (places x) i 0 < get_or (places x) k 0
  places-rise x i k h hk =
      let a = place-of-digit x i (omega arith) in
      let b = place-of-digit x k hk in
      elim (dec_lt a.column b.column) [
        | yes up ↦ omega (arith, a.place, b.place)
        | no n ↦
            let down = before-rises b.column a.column (omega arith) in
            omega (arith, down, a.number, b.number)
      ]
