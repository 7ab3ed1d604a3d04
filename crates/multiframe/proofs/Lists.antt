-- A list's elements, one after the other.
use mathlib.Core.Path.{◌≡◌, ap₂}
use mathlib.Core.List.{List, ◌∷◌}
use Prim.Native.Nat.{ℕ}

-- two lists are equal where their elements are: to rewrite a list of sixteen by one equation after the other takes seconds
pub and_then : {a b : ℕ} {xs ys : List ℕ} → a ≡ b → xs ≡ ys → a ∷ xs ≡ b ∷ ys
and_then e f = ap₂ (λ (x : ℕ) (l : List ℕ). x ∷ l) e f
