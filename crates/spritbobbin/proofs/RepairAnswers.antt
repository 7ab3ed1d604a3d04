-- The statement of the C call that repairs guards the call: no second answer, what it ensures is its statement, and nothing is asked
-- (as proofs/Answers.antt for the other calls).
use mathlib.Core.Path.{◌≡◌}
use mathlib.Core.List.{List}
use Prim.Native.Nat.{ℕ}
use contract.Lifetimes.{Lfts}
use denote.Triple.Clauses.{AtExit}
use borrow.Fn.World.{ArgsD, ResD}
use Rattle.spritbobbin.specs.RepairFace.{RepairFaceMet}
use Rattle.spritbobbin.specs.contracts.repair_face.spritbobbin_repair as repair
use Rattle.spritbobbin.proofs.repair_face.spritbobbin_repair.Reads as repair-reads

pub repair-one-answer : (level earlier national : ℕ) (line : List ℕ) (r s : ℕ) (l m a b : List ℕ) → RepairFaceMet level earlier national line r l a → RepairFaceMet level earlier national line s m b
    → (r ≡ s) × (l ≡ m) × (a ≡ b)
repair-one-answer level earlier national line r s l m a b x y = (cc, cc, cc)

pub repair-met : (κs : Lfts 2) (a : ArgsD repair.signature κs) (r : ResD repair.signature κs) (e : AtExit repair.ended κs) → repair-reads.Learnt κs a r e
    → RepairFaceMet a.0 a.1.0 a.1.1.0 a.1.1.1.0.now r e.1.1.1.0.now e.1.1.1.1.0.now
repair-met κs a r e met = met

pub repair-asks-nothing : (κs : Lfts 2) (a : ArgsD repair.signature κs) → repair-reads.Asked κs a
repair-asks-nothing κs a = tt
