-- Numbers below a bound: a test of each of them, by which a table is settled by computation; and all but the last.
use mathlib.Core.Path.{◌≡◌}
use mathlib.Core.Bool.{Bool, true, ◌&&◌}
use Prim.Native.Nat.{ℕ, zero, suc, ◌+◌, ◌<◌}
use native.Mathlib.Omega.{arith}
use native.Mathlib.Decide.{dec_lt, ℕ_discrete}
use Rattle.digits.proofs.Tests.{and_both}

-- the test of every number below n
unfoldable pub all : ℕ → (ℕ → Bool) → Bool
all zero t = true
all (suc n) t = t n && all n t

-- below n + 1 and not n is below n
pub lt_of_ne : (f n : ℕ) → f < n + 1 → (f ≡ n → ⊥) → f < n
lt_of_ne f n l far =
    elim (dec_lt f n) [
      | yes h ↦ h
      | no h ↦ absurd (far (omega arith))
    ]

pub all-at : (n : ℕ) (t : ℕ → Bool) → all n t ≡ true → (i : ℕ) → i < n → t i ≡ true
unfolding all
all-at zero t e i h = absurd (nothing h)
  where
    nothing : i < 0 → ⊥
    nothing h = omega arith
all-at (suc n) t e i h =
    let w = and_both (t n) (all n t) e in
    elim (ℕ_discrete i n) [
      | yes it ↦ rw it w.0
      | no far ↦ all-at n t w.1 i (lt_of_ne i n (omega arith) far)
    ]
