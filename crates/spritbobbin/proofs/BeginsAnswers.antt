-- The statements of the C calls that say where a recording and where a multiframe begins guard the calls: no second answer, what each ensures is its
-- statement, and nothing is asked (as proofs/Answers.antt for the other calls).
use mathlib.Core.Path.{◌≡◌}
use mathlib.Core.List.{List}
use Prim.Native.Nat.{ℕ}
use contract.Lifetimes.{Lfts}
use denote.Triple.Clauses.{AtExit}
use borrow.Fn.World.{ArgsD, ResD}
use Rattle.spritbobbin.specs.BeginsFace.{BeginsFaceMet, StartFaceMet}
use Rattle.spritbobbin.specs.contracts.begins_face.spritbobbin_begins as begins
use Rattle.spritbobbin.proofs.begins_face.spritbobbin_begins.Reads as begins-reads
use Rattle.spritbobbin.specs.contracts.begins_face.spritbobbin_multiframe_start as start
use Rattle.spritbobbin.proofs.begins_face.spritbobbin_multiframe_start.Reads as start-reads

pub begins-one-answer : (read : List ℕ) (digits : ℕ) (sent : List ℕ) (first count r s : ℕ) (a b : List ℕ)
    → BeginsFaceMet read digits sent first count r a → BeginsFaceMet read digits sent first count s b → (r ≡ s) × (a ≡ b)
begins-one-answer read digits sent first count r s a b x y = (cc, cc)

pub begins-met : (κs : Lfts 3) (a : ArgsD begins.signature κs) (r : ResD begins.signature κs) (e : AtExit begins.ended κs) → begins-reads.Learnt κs a r e
    → BeginsFaceMet a.0.now a.1.0 a.1.1.0.now a.1.1.1.0 a.1.1.1.1.0 r e.1.1.1.1.1.0.now
begins-met κs a r e met = met

pub begins-asks-nothing : (κs : Lfts 3) (a : ArgsD begins.signature κs) → begins-reads.Asked κs a
begins-asks-nothing κs a = tt

pub start-one-answer : (frames : List ℕ) (r s : ℕ) (a b : List ℕ) → StartFaceMet frames r a → StartFaceMet frames s b → (r ≡ s) × (a ≡ b)
start-one-answer frames r s a b x y = (cc, cc)

pub start-met : (κs : Lfts 2) (a : ArgsD start.signature κs) (r : ResD start.signature κs) (e : AtExit start.ended κs) → start-reads.Learnt κs a r e
    → StartFaceMet a.0.now r e.1.0.now
start-met κs a r e met = met

pub start-asks-nothing : (κs : Lfts 2) (a : ArgsD start.signature κs) → start-reads.Asked κs a
start-asks-nothing κs a = tt
