-- No second answer: whatever meets the statement of the call is the one answer, and leaves the same buffer.
use mathlib.Core.Path.{◌≡◌}
use mathlib.Core.List.{List}
use Prim.Native.Nat.{ℕ}
use contract.Lifetimes.{Lfts}
use denote.Triple.Clauses.{AtExit}
use borrow.Fn.World.{ArgsD, ResD}
use Rattle.levels.specs.Faults.{Counted, numbers_of}
use Rattle.extraction.specs.Extract.{ExtractMet}
use Rattle.extraction.specs.contracts.extract.{signature, ended}
use Rattle.extraction.proofs.extract.Reads.{Asked, Learnt}

pub no-second-answer : (level earlier : ℕ) (line notes buffer : List ℕ) (r s : Counted) (b c : List ℕ) → ExtractMet level earlier line notes buffer r b → ExtractMet level earlier line notes buffer s c
    → (r ≡ s) × (b ≡ c)
no-second-answer level earlier line notes buffer r s b c p q = (cc, cc)

-- and what the call ensures is that statement
pub extract-met : (κs : Lfts 3) (a : ArgsD signature κs) (r : ResD signature κs) (e : AtExit ended κs) → Learnt κs a r e
    → ExtractMet a.0 a.1.0 a.1.1.0.now a.1.1.1.0.now a.1.1.1.1.0.now (numbers_of r) e.1.1.1.1.0.now
extract-met κs a r e met = met

-- and it asks nothing of its caller
pub extract-asks-nothing : (κs : Lfts 3) (a : ArgsD signature κs) → Asked κs a
extract-asks-nothing κs a = tt
