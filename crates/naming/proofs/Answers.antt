-- No second answer: whatever meets the statement of a call is the one answer, what the call ensures is that statement, and it asks nothing.
use mathlib.Core.Path.{◌≡◌, sym, ◌∙◌}
use Prim.Native.Nat.{ℕ}
use contract.Lifetimes.{Lfts}
use denote.Triple.Clauses.{AtExit}
use borrow.Fn.World.{ArgsD, ResD}
use Rattle.naming.specs.Frames as frames
use Rattle.naming.specs.Frames.{Placed, PlaceMet}
use Rattle.naming.specs.Multiframes as multiframes
use Rattle.naming.specs.Multiframes.{MultiframePlaced, MultiframePlaceMet}
use Rattle.naming.specs.contracts.place as place
use Rattle.naming.proofs.place.Reads as place-reads
use Rattle.naming.specs.contracts.multiframes.multiframe_place as multiframe_place
use Rattle.naming.proofs.multiframes.multiframe_place.Reads as multiframe_place-reads

pub place-once : (level p : ℕ) (r s : Placed) → PlaceMet level p r → PlaceMet level p s → r ≡ s
place-once level p r s x y = x ∙ sym y

pub place-met : (κs : Lfts 0) (a : ArgsD place.signature κs) (r : ResD place.signature κs) (e : AtExit place.ended κs) → place-reads.Learnt κs a r e
    → PlaceMet a.0 a.1.0 (frames.numbers_of r)
place-met κs a r e met = met

pub place-asks-nothing : (κs : Lfts 0) (a : ArgsD place.signature κs) → place-reads.Asked κs a
place-asks-nothing κs a = tt

pub multiframe-place-once : (p : ℕ) (r s : MultiframePlaced) → MultiframePlaceMet p r → MultiframePlaceMet p s → r ≡ s
multiframe-place-once p r s x y = x ∙ sym y

pub multiframe-place-met : (κs : Lfts 0) (a : ArgsD multiframe_place.signature κs) (r : ResD multiframe_place.signature κs) (e : AtExit multiframe_place.ended κs)
    → multiframe_place-reads.Learnt κs a r e
    → MultiframePlaceMet a.0 (multiframes.numbers_of r)
multiframe-place-met κs a r e met = met

pub multiframe-place-asks-nothing : (κs : Lfts 0) (a : ArgsD multiframe_place.signature κs) → multiframe_place-reads.Asked κs a
multiframe-place-asks-nothing κs a = tt
