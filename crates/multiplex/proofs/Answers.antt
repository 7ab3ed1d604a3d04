-- No second answer: whatever meets the statement of the call is the one answer, and leaves the same line.
use mathlib.Core.Path.{◌≡◌, sym, ◌∙◌}
use mathlib.Core.List.{List}
use Prim.Native.Nat.{ℕ}
use contract.Lifetimes.{Lfts}
use denote.Triple.Clauses.{AtExit}
use borrow.Fn.World.{ArgsD, ResD}
use Rattle.levels.specs.Faults.{Counted, numbers_of}
use Rattle.multiplex.specs.Multiplex.{Met}
use Rattle.multiplex.specs.contracts.multiplex.{signature, ended}
use Rattle.multiplex.proofs.multiplex.Reads.{Asked, Learnt}

-- what two runs of the call may answer and leave, on the same input, is the same
pub no-second-answer : (level earlier : ℕ) (line notes buffer : List ℕ) (a b : Counted) (l m : List ℕ) → Met level earlier line notes buffer a l → Met level earlier line notes buffer b m
    → (a ≡ b) × (l ≡ m)
no-second-answer level earlier line notes buffer a b l m x y = (x.0 ∙ sym y.0, x.1 ∙ sym y.1)

-- and what the call ensures is that statement
pub call_met : (κs : Lfts 3) (a : ArgsD signature κs) (r : ResD signature κs) (e : AtExit ended κs) → Learnt κs a r e
    → Met a.0 a.1.0 a.1.1.0.now a.1.1.1.0.now a.1.1.1.1.0.now (numbers_of r) e.1.1.0.now
call_met κs a r e met = met

-- and it asks nothing of its caller
pub call-asks-nothing : (κs : Lfts 3) (a : ArgsD signature κs) → Asked κs a
call-asks-nothing κs a = tt
