-- No second answer: whatever meets the statement of the call is the one answer, and leaves the same line.
use mathlib.Core.Path.{◌≡◌}
use mathlib.Core.List.{List}
use Prim.Native.Nat.{ℕ}
use contract.Lifetimes.{Lfts}
use denote.Triple.Clauses.{AtExit}
use borrow.Fn.World.{ArgsD, ResD}
use Rattle.swap.specs.Swap.{Swapped, numbers_of, SwapMet}
use Rattle.swap.specs.contracts.swap.{signature, ended}
use Rattle.swap.proofs.swap.Reads.{Asked, Learnt}

pub no-second-answer : (level earlier tributary : ℕ) (line notes buffer : List ℕ) (r s : Swapped) (l m : List ℕ)
    → SwapMet level earlier tributary line notes buffer r l → SwapMet level earlier tributary line notes buffer s m → (r ≡ s) × (l ≡ m)
no-second-answer level earlier tributary line notes buffer r s l m p q = (cc, cc)

-- and what the call ensures is that statement
pub swap-met : (κs : Lfts 3) (a : ArgsD signature κs) (r : ResD signature κs) (e : AtExit ended κs) → Learnt κs a r e
    → SwapMet a.0 a.1.0 a.1.1.0 a.1.1.1.0.now a.1.1.1.1.0.now a.1.1.1.1.1.0.now (numbers_of r) e.1.1.1.0.now
swap-met κs a r e met = met

-- and it asks nothing of its caller
pub swap-asks-nothing : (κs : Lfts 3) (a : ArgsD signature κs) → Asked κs a
swap-asks-nothing κs a = tt
