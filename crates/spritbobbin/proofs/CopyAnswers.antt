-- The statement of the C call that copies digits guards the call: no second answer, what it ensures is its statement, and nothing is asked
-- (as proofs/Answers.antt for the other calls).
use mathlib.Core.Path.{◌≡◌}
use mathlib.Core.List.{List}
use Prim.Native.Nat.{ℕ}
use contract.Lifetimes.{Lfts}
use denote.Triple.Clauses.{AtExit}
use borrow.Fn.World.{ArgsD, ResD}
use Rattle.copying.specs.Copying.{CopyMet}
use Rattle.copying.proofs.Answers.{no-second-answer}
use Rattle.spritbobbin.specs.contracts.copy_face.spritbobbin_copy_digits as copy
use Rattle.spritbobbin.proofs.copy_face.spritbobbin_copy_digits.Reads as copy-reads

pub copy-one-answer : (to : List ℕ) (at : ℕ) (from : List ℕ) (first count r s : ℕ) (l m : List ℕ) → CopyMet to at from first count r l
    → CopyMet to at from first count s m → (r ≡ s) × (l ≡ m)
copy-one-answer = no-second-answer

pub copy_met : (κs : Lfts 2) (a : ArgsD copy.signature κs) (r : ResD copy.signature κs) (e : AtExit copy.ended κs) → copy-reads.Learnt κs a r e
    → CopyMet a.0.now a.1.0 a.1.1.0.now a.1.1.1.0 a.1.1.1.1.0 r e.0.now
copy_met κs a r e met = met

pub copy-asks-nothing : (κs : Lfts 2) (a : ArgsD copy.signature κs) → copy-reads.Asked κs a
copy-asks-nothing κs a = tt
