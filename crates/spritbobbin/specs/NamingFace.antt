-- The C face of what a place is, of a frame and of a multiframe: the whole statements of the two calls.
use Rattle.std.specs.Prelude.{◌≡◌, List, [], ◌∷◌, ℕ}
use Rattle.naming.specs.Frames.{Placed, placed}
use Rattle.naming.specs.Multiframes.{MultiframePlaced, multiframe_placed}

-- answer: kind, tributary
abbrev pub place_answer : Placed → List ℕ
place_answer p = p.kind ∷ p.tributary ∷ []

-- spritbobbin_place returns the refusal number, and leaves the answer
abbrev pub PlaceFaceMet : ℕ → ℕ → ℕ → List ℕ → Type 0
PlaceFaceMet level place returned answer_left = (returned ≡ (placed level place).refusal) × (answer_left ≡ place_answer (placed level place))

-- answer: kind, number
abbrev pub multiframe_answer : MultiframePlaced → List ℕ
multiframe_answer p = p.kind ∷ p.number ∷ []

-- spritbobbin_multiframe_place returns the refusal number, and leaves the answer
abbrev pub MultiframePlaceFaceMet : ℕ → ℕ → List ℕ → Type 0
MultiframePlaceFaceMet place returned answer_left =
    (returned ≡ (multiframe_placed place).refusal) × (answer_left ≡ multiframe_answer (multiframe_placed place))
