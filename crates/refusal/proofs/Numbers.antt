-- No refusal has the number 0, which says that a call is accepted, and no two have one number.
use mathlib.Core.Path.{◌≡◌, refl, sym, ◌∙◌, ap}
use mathlib.Core.Logic.{◌≢◌}
use mathlib.Core.Bool.{cond}
use lib.Dec.{eqb}
use Prim.Native.Nat.{ℕ}
use native.Mathlib.Omega.{arith}
use Rattle.refusal.specs.declared.Refusal.{Refusal}
use Rattle.refusal.specs.declared.Refusal.TheVariants.{Level, Line, Notes, Buffer, NoteBits, State, Digits, RackLine, Field, National, Signalling, Tributary, Pattern}
use Rattle.refusal.specs.Refusal.{number_of}

pub number-some : (refusal : Refusal) → number_of refusal ≢ 0
number-some Level = λ e. omega arith
number-some Line = λ e. omega arith
number-some Notes = λ e. omega arith
number-some Buffer = λ e. omega arith
number-some NoteBits = λ e. omega arith
number-some State = λ e. omega arith
number-some Digits = λ e. omega arith
number-some RackLine = λ e. omega arith
number-some Field = λ e. omega arith
number-some National = λ e. omega arith
number-some Signalling = λ e. omega arith
number-some Tributary = λ e. omega arith
number-some Pattern = λ e. omega arith

-- the refusal of a number; of a number that is none's, whichever
refusal-of : ℕ → Refusal
refusal-of n =
    cond (eqb n 1) Level (
    cond (eqb n 2) Line (
    cond (eqb n 3) Notes (
    cond (eqb n 4) Buffer (
    cond (eqb n 5) NoteBits (
    cond (eqb n 6) State (
    cond (eqb n 7) Digits (
    cond (eqb n 8) RackLine (
    cond (eqb n 9) Field (
    cond (eqb n 10) National (
    cond (eqb n 11) Signalling (
    cond (eqb n 12) Tributary (Pattern))))))))))))

back : (refusal : Refusal) → refusal-of (number_of refusal) ≡ refusal
unfolding refusal-of
back Level = refl
back Line = refl
back Notes = refl
back Buffer = refl
back NoteBits = refl
back State = refl
back Digits = refl
back RackLine = refl
back Field = refl
back National = refl
back Signalling = refl
back Tributary = refl
back Pattern = refl

pub one-refusal : (one other : Refusal) → number_of one ≡ number_of other → one ≡ other
one-refusal one other e = sym (back one) ∙ ap refusal-of e ∙ back other
