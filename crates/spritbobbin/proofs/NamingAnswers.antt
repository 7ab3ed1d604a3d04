-- The statements of the C calls that say what a place is guard the calls: no second answer, what each ensures is its statement, and nothing is asked
-- (as proofs/Answers.antt for the other calls).
use mathlib.Core.Path.{◌≡◌}
use mathlib.Core.List.{List}
use Prim.Native.Nat.{ℕ}
use contract.Lifetimes.{Lfts}
use denote.Triple.Clauses.{AtExit}
use borrow.Fn.World.{ArgsD, ResD}
use Rattle.spritbobbin.specs.NamingFace.{PlaceFaceMet, MultiframePlaceFaceMet}
use Rattle.spritbobbin.specs.contracts.naming_face.spritbobbin_place as place
use Rattle.spritbobbin.proofs.naming_face.spritbobbin_place.Reads as place-reads
use Rattle.spritbobbin.specs.contracts.naming_face.spritbobbin_multiframe_place as multiframe-place
use Rattle.spritbobbin.proofs.naming_face.spritbobbin_multiframe_place.Reads as multiframe-place-reads

pub place-one-answer : (level p r s : ℕ) (a b : List ℕ) → PlaceFaceMet level p r a → PlaceFaceMet level p s b → (r ≡ s) × (a ≡ b)
place-one-answer level p r s a b x y = (cc, cc)

pub place-met : (κs : Lfts 1) (a : ArgsD place.signature κs) (r : ResD place.signature κs) (e : AtExit place.ended κs) → place-reads.Learnt κs a r e
    → PlaceFaceMet a.0 a.1.0 r e.1.1.0.now
place-met κs a r e met = met

pub place-asks-nothing : (κs : Lfts 1) (a : ArgsD place.signature κs) → place-reads.Asked κs a
place-asks-nothing κs a = tt

pub multiframe-place-one-answer : (p r s : ℕ) (a b : List ℕ) → MultiframePlaceFaceMet p r a → MultiframePlaceFaceMet p s b → (r ≡ s) × (a ≡ b)
multiframe-place-one-answer p r s a b x y = (cc, cc)

pub multiframe-place-met : (κs : Lfts 1) (a : ArgsD multiframe-place.signature κs) (r : ResD multiframe-place.signature κs)
    (e : AtExit multiframe-place.ended κs) → multiframe-place-reads.Learnt κs a r e
    → MultiframePlaceFaceMet a.0 r e.1.0.now
multiframe-place-met κs a r e met = met

pub multiframe-place-asks-nothing : (κs : Lfts 1) (a : ArgsD multiframe-place.signature κs) → multiframe-place-reads.Asked κs a
multiframe-place-asks-nothing κs a = tt
