-- The statement of the C call that swaps guards the call: no second answer, what it ensures is its statement, and nothing is asked
-- (as proofs/Answers.antt for the other calls).
use mathlib.Core.Path.{◌≡◌}
use mathlib.Core.List.{List}
use Prim.Native.Nat.{ℕ}
use contract.Lifetimes.{Lfts}
use denote.Triple.Clauses.{AtExit}
use borrow.Fn.World.{ArgsD, ResD}
use Rattle.spritbobbin.specs.SwapFace.{SwapFaceMet}
use Rattle.spritbobbin.specs.contracts.swap_face.spritbobbin_swap as swap
use Rattle.spritbobbin.proofs.swap_face.spritbobbin_swap.Reads as swap-reads

pub swap-one-answer : (level earlier tributary : ℕ) (line notes buffer : List ℕ) (r s : ℕ) (l m a b : List ℕ)
    → SwapFaceMet level earlier tributary line notes buffer r l a → SwapFaceMet level earlier tributary line notes buffer s m b → (r ≡ s) × (l ≡ m) × (a ≡ b)
swap-one-answer level earlier tributary line notes buffer r s l m a b x y = (cc, cc, cc)

pub swap-met : (κs : Lfts 4) (a : ArgsD swap.signature κs) (r : ResD swap.signature κs) (e : AtExit swap.ended κs) → swap-reads.Learnt κs a r e
    → SwapFaceMet a.0 a.1.0 a.1.1.0 a.1.1.1.0.now a.1.1.1.1.0.now a.1.1.1.1.1.0.now r e.1.1.1.0.now e.1.1.1.1.1.1.0.now
swap-met κs a r e met = met

pub swap-asks-nothing : (κs : Lfts 4) (a : ArgsD swap.signature κs) → swap-reads.Asked κs a
swap-asks-nothing κs a = tt
