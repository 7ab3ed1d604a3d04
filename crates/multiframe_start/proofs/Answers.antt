-- No second answer: whatever meets the statement of the call is the one answer.
use mathlib.Core.Path.{◌≡◌, sym, ◌∙◌}
use mathlib.Core.List.{List}
use Prim.Native.Nat.{ℕ}
use contract.Lifetimes.{Lfts}
use denote.Triple.Clauses.{AtExit}
use borrow.Fn.World.{ArgsD, ResD}
use Rattle.multiframe_start.specs.Start.{Started, numbers_of, StartMet}
use Rattle.multiframe_start.specs.contracts.multiframe_start.{signature, ended}
use Rattle.multiframe_start.proofs.multiframe_start.Reads.{Asked, Learnt}

pub no-second-answer : (frames : List ℕ) (r s : Started) → StartMet frames r → StartMet frames s → r ≡ s
no-second-answer frames r s x y = x ∙ sym y

-- and what the call ensures is that statement
pub start-met : (κs : Lfts 1) (a : ArgsD signature κs) (r : ResD signature κs) (e : AtExit ended κs) → Learnt κs a r e → StartMet a.0.now (numbers_of r)
start-met κs a r e met = met.0

-- and it asks nothing of its caller
pub start-asks-nothing : (κs : Lfts 1) (a : ArgsD signature κs) → Asked κs a
start-asks-nothing κs a = tt
