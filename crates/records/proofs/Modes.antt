-- What the numbers of the modes say.
use mathlib.Core.Path.{◌≡◌, refl}
use mathlib.Core.Bool.{Bool, cond, true, false}
use Prim.Native.Nat.{ℕ, zero, suc, ◌-◌}
use native.Mathlib.Omega.{arith}
use borrow.Author.Tests.{ne_eqb, le-leb}
use lib.Dec.{leb}
use Rattle.modes.specs.declared.Mode.TheVariants.{Aligned}
use Rattle.pieces.specs.Frame.{aligned}
use Rattle.receiver.specs.Numbers.{mode_of}
use Rattle.records.specs.Record.{is_aligned}

either : (t : Bool) (a b : ℕ) → aligned (cond t (Aligned a) (Aligned b)) ≡ true
either true a b = refl
either false a b = refl

-- whatever is missed: 3 + m is aligned with m missed
pub aligned-from-3 : (n : ℕ) → is_aligned n ≡ leb 3 n
unfolding is_aligned mode_of
aligned-from-3 zero = refl
aligned-from-3 (suc zero) = refl
aligned-from-3 (suc (suc zero)) = refl
aligned-from-3 (suc (suc (suc n))) =
    rw (
      ne_eqb (suc (suc (suc n))) 0 (λ e. omega arith),
      ne_eqb (suc (suc (suc n))) 1 (λ e. omega arith),
      ne_eqb (suc (suc (suc n))) 2 (λ e. omega arith),
      le-leb 3 (suc (suc (suc n))) (omega arith),
    )
    (either (leb (suc (suc (suc n))) 6) (suc (suc (suc n)) - 3) 4)
