-- No refusal has the number 0, which says that a call is accepted, and no two have one number.
use mathlib.Core.Path.{◌≡◌, refl, sym, ◌∙◌, ap}
use mathlib.Core.Logic.{◌≢◌}
use mathlib.Core.Bool.{cond}
use lib.Dec.{eqb}
use Prim.Native.Nat.{ℕ}
use native.Mathlib.Omega.{arith}
use Rattle.engine.specs.declared.refusals.Refusal.{Refusal}
use Rattle.engine.specs.declared.refusals.Refusal.TheVariants.{Level, Line, Notes, Buffer, NoteBits, National}
use Rattle.engine.specs.Engine.{number_of}

pub number-some : (refusal : Refusal) → number_of refusal ≢ 0
number-some Level = λ e. omega arith
number-some Line = λ e. omega arith
number-some Notes = λ e. omega arith
number-some Buffer = λ e. omega arith
number-some NoteBits = λ e. omega arith
number-some National = λ e. omega arith

-- the refusal of a number; of a number that is none's, whichever
refusal-of : ℕ → Refusal
refusal-of n =
    cond (eqb n 1) Level (
    cond (eqb n 2) Line (
    cond (eqb n 3) Notes (
    cond (eqb n 4) Buffer (
    cond (eqb n 5) NoteBits (National)))))

back : (refusal : Refusal) → refusal-of (number_of refusal) ≡ refusal
unfolding refusal-of
back Level = refl
back Line = refl
back Notes = refl
back Buffer = refl
back NoteBits = refl
back National = refl

pub one-refusal : (one other : Refusal) → number_of one ≡ number_of other → one ≡ other
one-refusal one other e = sym (back one) ∙ ap refusal-of e ∙ back other
