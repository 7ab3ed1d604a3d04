-- A stretch of two lines, grown place by place.
use mathlib.Core.Path.{◌≡◌, refl, sym}
use mathlib.Core.Logic.{◌≢◌}
use mathlib.Core.Bool.{Bool, true, false, not, beq, true≢false}
use mathlib.Core.List.{List}
use Prim.Native.Nat.{ℕ, ◌+◌, ◌≤◌, ◌<◌}
use native.Mathlib.Omega.{arith}
use native.Mathlib.Decide.{dec_lt}
use Rattle.tally.specs.Tally.{differ_at}

module _ (one other : List ℕ) (p : ℕ) where
  abbrev pub Alike : ℕ → Type 0
  Alike end = (q : ℕ) → p ≤ q → q < end → differ_at one other q ≡ differ_at one other p

  pub alike-start : Alike (p + 1)
  alike-start q lo hi = let at : q ≡ p = omega arith in rw at refl

  pub alike-more : (end : ℕ) → Alike end → differ_at one other end ≡ differ_at one other p → Alike (end + 1)
  alike-more end same e q lo hi =
      elim (dec_lt q end) [
        | yes h ↦ same q lo h
        | no h ↦ let at : q ≡ end = omega arith in rw at e
      ]

-- two tests that are found to be the same, or not
pub tests_same : (a b : Bool) → not (beq a b) ≡ false → a ≡ b
tests_same true true e = refl
tests_same true false e = absurd (true≢false e)
tests_same false true e = absurd (true≢false e)
tests_same false false e = refl

pub tests-turned : (a b : Bool) → not (beq a b) ≡ true → a ≢ b
tests-turned true true e s = true≢false (sym e)
tests-turned true false e s = true≢false s
tests-turned false true e s = true≢false (sym s)
tests-turned false false e s = true≢false (sym e)

-- a place that has reached the end is not before it
pub past : (q end : ℕ) → q < end → end ≤ q → ⊥
past q end h n = omega arith
