-- A pattern's window moved on digit by digit.
use mathlib.Core.Path.{◌≡◌, sym, ◌∙◌}
use mathlib.Core.Logic.{◌≢◌}
use Prim.Native.Nat.{ℕ, zero, suc, ◌+◌, ◌^◌, ◌≤◌, ◌<◌}
use native.Mathlib.Omega.{arith}
use native.Mathlib.Decide.{ℕ_discrete}
use native.Mathlib.Numerals.{add-one}
use Rattle.patterns.specs.Patterns.{OneOfTwo, made_of, pushed, window_after}

pub pattern-small : (pattern : ℕ) → OneOfTwo pattern → pattern ≤ 23
pattern-small pattern two =
    elim (ℕ_discrete pattern 15) [
      | yes e ↦ omega arith
      | no far ↦ omega (arith, two far)
    ]

pub some_pattern : (pattern : ℕ) → OneOfTwo pattern → pattern ≢ 0
some_pattern pattern two z = none (two (λ e. fifteen (sym z ∙ e)))
  where
    fifteen : ◌≡◌ {A = ℕ} 0 15 → ⊥
    fifteen e = omega arith

    none : pattern ≡ 23 → ⊥
    none e = omega arith

pub pushed-lt : (window d : ℕ) → pushed window d < 2 ^ 23
unfolding pushed
pushed-lt window d = omega arith

pub window-lt : (pattern window n : ℕ) → window < 2 ^ 23 → window_after pattern window n < 2 ^ 23
unfolding window_after
window-lt pattern window zero h = h
window-lt pattern window (suc n) h = pushed-lt (window_after pattern window n) (made_of pattern (window_after pattern window n))

-- in the code's terms
pub window-next : (pattern window n w d x : ℕ) → w ≡ window_after pattern window n → d ≡ made_of pattern w → x ≡ pushed w d → x ≡ window_after pattern window (n + 1)
unfolding window_after
window-next pattern window n w d x ew ed ex = ex ∙ rw (ed, ew, add-one n)
