-- No second answer: whatever meets the statement of the call is the one answer.
use mathlib.Core.Path.{◌≡◌, sym, ◌∙◌}
use mathlib.Core.List.{List}
use Prim.Native.Nat.{ℕ}
use contract.Lifetimes.{Lfts}
use denote.Triple.Clauses.{AtExit}
use borrow.Fn.World.{ArgsD, ResD}
use Rattle.begins.specs.Begins.{Begun, numbers_of, BeginsMet}
use Rattle.begins.specs.contracts.begins.{signature, ended}
use Rattle.begins.proofs.begins.Reads.{Asked, Learnt}

pub no-second-answer : (read : List ℕ) (digits : ℕ) (sent : List ℕ) (first count : ℕ) (r s : Begun) → BeginsMet read digits sent first count r
    → BeginsMet read digits sent first count s → r ≡ s
no-second-answer read digits sent first count r s x y = x ∙ sym y

-- and what the call ensures is that statement
pub begins-met : (κs : Lfts 2) (a : ArgsD signature κs) (r : ResD signature κs) (e : AtExit ended κs) → Learnt κs a r e
    → BeginsMet a.0.now a.1.0 a.1.1.0.now a.1.1.1.0 a.1.1.1.1.0 (numbers_of r)
begins-met κs a r e met = met

-- and it asks nothing of its caller
pub begins-asks-nothing : (κs : Lfts 2) (a : ArgsD signature κs) → Asked κs a
begins-asks-nothing κs a = tt
