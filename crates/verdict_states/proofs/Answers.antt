-- No second answer: whatever meets the statement of a call is the one answer.
use mathlib.Core.Path.{◌≡◌, sym, ◌∙◌}
use mathlib.Core.List.{List}
use Prim.Native.Nat.{ℕ}
use contract.Lifetimes.{Lfts}
use denote.Triple.Clauses.{AtExit}
use borrow.Fn.World.{ArgsD, ResD}
use Rattle.refusal.specs.Refusal.{refusal_in}
use Rattle.verdict_states.specs.States.{FreshMet}
use Rattle.verdict_states.specs.contracts.fresh.fresh.{signature, ended}
use Rattle.verdict_states.proofs.fresh.fresh.Reads.{Asked, Learnt}

pub fresh-no-second-answer : (level earlier pattern r s : ℕ) (made other : List ℕ) → FreshMet level earlier pattern r made → FreshMet level earlier pattern s other
    → (r ≡ s) × (made ≡ other)
fresh-no-second-answer level earlier pattern r s made other p q = (p.0 ∙ sym q.0, p.1 ∙ sym q.1)

-- and what the call ensures is that statement
pub fresh-met : (κs : Lfts 1) (a : ArgsD signature κs) (r : ResD signature κs) (e : AtExit ended κs) → Learnt κs a r e
    → FreshMet a.0 a.1.0 a.1.1.0 (refusal_in r) e.1.1.1.0.now
fresh-met κs a r e met = met

-- and it asks nothing of its caller
pub fresh-asks-nothing : (κs : Lfts 1) (a : ArgsD signature κs) → Asked κs a
fresh-asks-nothing κs a = tt
