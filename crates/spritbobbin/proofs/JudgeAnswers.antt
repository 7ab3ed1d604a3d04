-- The statement of the C call that judges guards the call: no second answer, what it ensures is its statement, and nothing is asked
-- (as proofs/Answers.antt for the other calls).
use mathlib.Core.Path.{◌≡◌}
use mathlib.Core.List.{List}
use Prim.Native.Nat.{ℕ}
use contract.Lifetimes.{Lfts}
use denote.Triple.Clauses.{AtExit}
use borrow.Fn.World.{ArgsD, ResD}
use Rattle.spritbobbin.specs.JudgeFace.{JudgeFaceMet}
use Rattle.spritbobbin.specs.contracts.judge_face.spritbobbin_judge as judge
use Rattle.spritbobbin.proofs.judge_face.spritbobbin_judge.Reads as judge-reads

pub judge-one-answer : (level earlier : ℕ) (line : List ℕ) (pattern : ℕ) (buffer : List ℕ) (r s : ℕ) (a b : List ℕ) → JudgeFaceMet level earlier line pattern buffer r a
    → JudgeFaceMet level earlier line pattern buffer s b
    → (r ≡ s) × (a ≡ b)
judge-one-answer level earlier line pattern buffer r s a b x y = (cc, cc)

pub judge-met : (κs : Lfts 3) (a : ArgsD judge.signature κs) (r : ResD judge.signature κs) (e : AtExit judge.ended κs) → judge-reads.Learnt κs a r e
    → JudgeFaceMet a.0 a.1.0 a.1.1.0.now a.1.1.1.0 a.1.1.1.1.0.now r e.1.1.1.1.1.0.now
judge-met κs a r e met = met

pub judge-asks-nothing : (κs : Lfts 3) (a : ArgsD judge.signature κs) → judge-reads.Asked κs a
judge-asks-nothing κs a = tt
