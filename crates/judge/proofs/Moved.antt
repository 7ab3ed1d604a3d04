-- The votes stand in an array from place 1 on. A vote put before them, or behind them, and the part that is lent from there: the votes moved by a frame.
use mathlib.Core.Path.{◌≡◌, refl, sym, ◌∙◌, ap}
use mathlib.Core.List.{List, [], ◌∷◌, ◌++◌}
use Prim.Native.Nat.{ℕ, zero, suc, ◌<◌}
use native.Mathlib.Omega.{arith}
use native.Mathlib.Numerals.{add-one}
use lib.ListN.{length, get_or, set, take, drop}
use lib.Seq.{take-take, take-append-add}

-- moved towards the end: the vote before them first
pub moved-late : (votes : List ℕ) (F w : ℕ) → 0 < length votes → take F (set votes 0 w) ≡ take F (w ∷ take F (drop 1 votes))
moved-late [] F w h = absurd (none h)
  where
    none : 0 < 0 → ⊥
    none h = omega arith
moved-late (v ∷ vs) zero w h = refl
moved-late (v ∷ vs) (suc F) w h = ap (λ (l : List ℕ). w ∷ l) (sym (take-take F (suc F) vs (omega arith)))

-- moved towards the beginning: the first is the vote before frame 0, and the one behind them is the last
pub first-early : (notes rest : List ℕ) (u : ℕ) → get_or (notes ++ (u ∷ rest)) 0 0 ≡ get_or (notes ++ (u ∷ [])) 0 0
first-early [] rest u = refl
first-early (x ∷ notes) rest u = refl

pub moved-early : (notes rest : List ℕ) (u : ℕ) → take (length notes) (drop 1 (notes ++ (u ∷ rest))) ≡ drop 1 (notes ++ (u ∷ []))
moved-early [] rest u = refl
moved-early (x ∷ notes) rest u = ap (λ (k : ℕ). take k (notes ++ (u ∷ rest))) (sym (add-one (length notes))) ∙ take-append-add notes (u ∷ rest) 1
