-- The C face of where a recording begins in what was sent, and of where a multiframe begins: the whole statements of the two calls.
use Rattle.std.specs.Prelude.{◌≡◌, List, [], ◌∷◌, ℕ}
use Rattle.begins.specs.Begins.{Begun, begun_in}
use Rattle.multiframe_start.specs.Start.{Started, started}

-- answer: the number, and how many digits differ there
abbrev pub begun_answer : Begun → List ℕ
begun_answer b = b.at ∷ b.differing ∷ []

-- spritbobbin_begins returns the refusal number, and leaves the answer
abbrev pub BeginsFaceMet : List ℕ → ℕ → List ℕ → ℕ → ℕ → ℕ → List ℕ → Type 0
BeginsFaceMet read digits sent first count returned answer_left =
    (returned ≡ (begun_in read digits sent first count).refusal) × (answer_left ≡ begun_answer (begun_in read digits sent first count))

-- answer: the frame
abbrev pub start_answer : Started → List ℕ
start_answer s = s.frame ∷ []

-- spritbobbin_multiframe_start returns the refusal number, and leaves the answer
abbrev pub StartFaceMet : List ℕ → ℕ → List ℕ → Type 0
StartFaceMet frames returned answer_left = (returned ≡ (started frames).refusal) × (answer_left ≡ start_answer (started frames))
