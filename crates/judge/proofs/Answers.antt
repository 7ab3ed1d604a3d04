-- No second answer: whatever meets the statement of the call is the one answer.
use mathlib.Core.Path.{◌≡◌}
use mathlib.Core.List.{List}
use Prim.Native.Nat.{ℕ}
use contract.Lifetimes.{Lfts}
use denote.Triple.Clauses.{AtExit}
use borrow.Fn.World.{ArgsD, ResD}
use Rattle.judge.specs.Verdict.{Judged, numbers_of, JudgeMet}
use Rattle.judge.specs.contracts.judge.{signature, ended}
use Rattle.judge.proofs.judge.Reads.{Asked, Learnt}

pub no-second-answer : (level earlier : ℕ) (line : List ℕ) (pattern : ℕ) (buffer : List ℕ) (r s : Judged) → JudgeMet level earlier line pattern buffer r
    → JudgeMet level earlier line pattern buffer s → r ≡ s
no-second-answer level earlier line pattern buffer r s p q = cc

-- and what the call ensures is that statement
pub judge-met : (κs : Lfts 2) (a : ArgsD signature κs) (r : ResD signature κs) (e : AtExit ended κs) → Learnt κs a r e
    → JudgeMet a.0 a.1.0 a.1.1.0.now a.1.1.1.0 a.1.1.1.1.0.now (numbers_of r)
judge-met κs a r e met = met

-- and it asks nothing of its caller
pub judge-asks-nothing : (κs : Lfts 2) (a : ArgsD signature κs) → Asked κs a
judge-asks-nothing κs a = tt
