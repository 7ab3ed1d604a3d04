-- No refusal has the number 0, which says that a call is accepted, and no two have one number.
use mathlib.Core.Path.{◌≡◌, refl, sym, ◌∙◌, ap}
use mathlib.Core.Logic.{◌≢◌}
use mathlib.Core.Bool.{cond}
use lib.Dec.{eqb}
use Prim.Native.Nat.{ℕ}
use native.Mathlib.Omega.{arith}
use Rattle.multiframe.specs.declared.Refusal.{Refusal}
use Rattle.multiframe.specs.declared.Refusal.TheVariants.{Line, Signalling}
use Rattle.multiframe.specs.Calls.{number_of}

pub number-some : (refusal : Refusal) → number_of refusal ≢ 0
number-some Line = λ e. omega arith
number-some Signalling = λ e. omega arith

-- the refusal of a number; of a number that is none's, whichever
refusal-of : ℕ → Refusal
refusal-of n = cond (eqb n 2) Line Signalling

back : (refusal : Refusal) → refusal-of (number_of refusal) ≡ refusal
unfolding refusal-of
back Line = refl
back Signalling = refl

pub one-refusal : (one other : Refusal) → number_of one ≡ number_of other → one ≡ other
one-refusal one other e = sym (back one) ∙ ap refusal-of e ∙ back other
