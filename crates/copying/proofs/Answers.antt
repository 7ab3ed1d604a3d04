-- No second answer: whatever meets the statement of the call is the one answer, and leaves the one slice.
use mathlib.Core.Path.{◌≡◌, sym, ◌∙◌}
use mathlib.Core.List.{List}
use Prim.Native.Nat.{ℕ}
use contract.Lifetimes.{Lfts}
use denote.Triple.Clauses.{AtExit}
use borrow.Fn.World.{ArgsD, ResD}
use Rattle.refusal.specs.Refusal.{refusal_in}
use Rattle.copying.specs.Copying.{CopyMet}
use Rattle.copying.specs.contracts.copy_digits.{signature, ended}
use Rattle.copying.proofs.copy_digits.Reads.{Asked, Learnt}

pub no-second-answer : (to : List ℕ) (at : ℕ) (from : List ℕ) (first count a b : ℕ) (l m : List ℕ) → CopyMet to at from first count a l
    → CopyMet to at from first count b m → (a ≡ b) × (l ≡ m)
no-second-answer to at from first count a b l m x y = (x.refusal ∙ sym y.refusal, x.copied ∙ sym y.copied)

-- and what the call ensures is that statement
pub copy_met : (κs : Lfts 2) (a : ArgsD signature κs) (r : ResD signature κs) (e : AtExit ended κs) → Learnt κs a r e
    → CopyMet a.0.now a.1.0 a.1.1.0.now a.1.1.1.0 a.1.1.1.1.0 (refusal_in r) e.0.now
copy_met κs a r e met = met

-- and it asks nothing of its caller
pub copy-asks-nothing : (κs : Lfts 2) (a : ArgsD signature κs) → Asked κs a
copy-asks-nothing κs a = tt
