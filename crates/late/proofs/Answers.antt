-- No second answer: whatever meets the statement of the call is the one answer, and leaves the one line.
use mathlib.Core.Path.{◌≡◌, sym, ◌∙◌}
use mathlib.Core.List.{List}
use Prim.Native.Nat.{ℕ}
use contract.Lifetimes.{Lfts}
use denote.Triple.Clauses.{AtExit}
use borrow.Fn.World.{ArgsD, ResD}
use Rattle.levels.specs.Faults.{Counted, numbers_of}
use Rattle.late.specs.Late.{LateMet}
use Rattle.late.specs.contracts.late_multiplex.{signature, ended}
use Rattle.late.proofs.late_multiplex.Reads.{Asked, Learnt}

pub no-second-answer : (level earlier : ℕ) (line notes buffer : List ℕ) (r s : Counted) (l m : List ℕ) → LateMet level earlier line notes buffer r l
    → LateMet level earlier line notes buffer s m → (r ≡ s) × (l ≡ m)
no-second-answer level earlier line notes buffer r s l m x y = (x.0 ∙ sym y.0, x.1 ∙ sym y.1)

-- and what the call ensures is that statement
pub late-met : (κs : Lfts 3) (a : ArgsD signature κs) (r : ResD signature κs) (e : AtExit ended κs) → Learnt κs a r e
    → LateMet a.0 a.1.0 a.1.1.0.now a.1.1.1.0.now a.1.1.1.1.0.now (numbers_of r) e.1.1.0.now
late-met κs a r e met = met

-- and it asks nothing of its caller
pub late-asks-nothing : (κs : Lfts 3) (a : ArgsD signature κs) → Asked κs a
late-asks-nothing κs a = tt
