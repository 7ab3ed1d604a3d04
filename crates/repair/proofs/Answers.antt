-- No second answer: whatever meets the statement of the call is the one answer, and leaves the same line.
use mathlib.Core.Path.{◌≡◌}
use mathlib.Core.Bool.{Bool}
use mathlib.Core.List.{List}
use Prim.Native.Nat.{ℕ}
use contract.Lifetimes.{Lfts}
use denote.Triple.Clauses.{AtExit}
use borrow.Fn.World.{ArgsD, ResD}
use Rattle.repair.specs.Repair.{Repaired, numbers_of, RepairMet}
use Rattle.repair.specs.contracts.repair.{signature, ended}
use Rattle.repair.proofs.repair.Reads.{Asked, Learnt}

pub no-second-answer : (level earlier : ℕ) (national : Bool) (line : List ℕ) (r s : Repaired) (n m : List ℕ) → RepairMet level earlier national line r n → RepairMet level earlier national line s m
    → (r ≡ s) × (n ≡ m)
no-second-answer level earlier national line r s n m p q = (cc, cc)

-- and what the call ensures is that statement
pub repair-met : (κs : Lfts 1) (a : ArgsD signature κs) (r : ResD signature κs) (e : AtExit ended κs) → Learnt κs a r e
    → RepairMet a.0 a.1.0 a.1.1.0 a.1.1.1.0.now (numbers_of r) e.1.1.1.0.now
repair-met κs a r e met = met

-- and it asks nothing of its caller
pub repair-asks-nothing : (κs : Lfts 1) (a : ArgsD signature κs) → Asked κs a
repair-asks-nothing κs a = tt
