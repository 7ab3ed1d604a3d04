-- The statement of the C call of the late multiplexer guards the call: no second answer, what it ensures is its statement, and nothing is asked
-- (as proofs/Answers.antt for the other calls).
use mathlib.Core.Path.{◌≡◌}
use mathlib.Core.List.{List}
use Prim.Native.Nat.{ℕ}
use contract.Lifetimes.{Lfts}
use denote.Triple.Clauses.{AtExit}
use borrow.Fn.World.{ArgsD, ResD}
use Rattle.spritbobbin.specs.LateFace.{LateFaceMet}
use Rattle.spritbobbin.specs.contracts.late_face.spritbobbin_late_multiplex as late
use Rattle.spritbobbin.proofs.late_face.spritbobbin_late_multiplex.Reads as late-reads

pub late-one-answer : (level earlier : ℕ) (line notes buffer : List ℕ) (r s : ℕ) (l m a b : List ℕ)
    → LateFaceMet level earlier line notes buffer r l a → LateFaceMet level earlier line notes buffer s m b → (r ≡ s) × (l ≡ m) × (a ≡ b)
late-one-answer level earlier line notes buffer r s l m a b x y = (cc, cc, cc)

pub late-met : (κs : Lfts 4) (a : ArgsD late.signature κs) (r : ResD late.signature κs) (e : AtExit late.ended κs) → late-reads.Learnt κs a r e
    → LateFaceMet a.0 a.1.0 a.1.1.0.now a.1.1.1.0.now a.1.1.1.1.0.now r e.1.1.0.now e.1.1.1.1.1.0.now
late-met κs a r e met = met

pub late-asks-nothing : (κs : Lfts 4) (a : ArgsD late.signature κs) → late-reads.Asked κs a
late-asks-nothing κs a = tt
