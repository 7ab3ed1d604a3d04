-- The C face of the plain engine: how its answers pass as numbers in fixed arrays, and the whole statement of each call.
use Rattle.std.specs.Prelude.{◌≡◌, List, [], ◌∷◌, ℕ, get_or}
use Rattle.engine.specs.Engine.{Answered, NotesRead, multiplexed, line_after, notes_read, notes_after, extracted, buffer_after}

-- answer: four digit counts, named frame
abbrev pub answered_answer : Answered → List ℕ
answered_answer a = get_or a.counts 0 0 ∷ get_or a.counts 1 0 ∷ get_or a.counts 2 0 ∷ get_or a.counts 3 0 ∷ a.frame ∷ []

-- answer: alignment digits that differ, dissenting digits of tributaries 1 to 4
abbrev pub notes_read_answer : NotesRead → List ℕ
notes_read_answer n = n.alignment ∷ get_or n.dissent 0 0 ∷ get_or n.dissent 1 0 ∷ get_or n.dissent 2 0 ∷ get_or n.dissent 3 0 ∷ []

-- spritbobbin_plain_multiplex returns the refusal number, and leaves the line and the answer
abbrev pub PlainMultiplexMet : ℕ → ℕ → List ℕ → List ℕ → List ℕ → ℕ → List ℕ → List ℕ → Type 0
PlainMultiplexMet level earlier line notes buffer returned line_left answer_left =
    let a = multiplexed level earlier line notes buffer in
    (returned ≡ a.refusal) × (line_left ≡ line_after level earlier line notes buffer) × (answer_left ≡ answered_answer a)

-- spritbobbin_plain_read_notes returns the refusal number, and leaves the notes and the answer
abbrev pub PlainReadNotesMet : ℕ → List ℕ → List ℕ → ℕ → List ℕ → List ℕ → Type 0
PlainReadNotesMet level line notes returned notes_left answer_left =
    let n = notes_read level line notes in
    (returned ≡ n.refusal) × (notes_left ≡ notes_after level line notes) × (answer_left ≡ notes_read_answer n)

-- spritbobbin_plain_extract returns the refusal number, and leaves the buffer and the answer
abbrev pub PlainExtractMet : ℕ → ℕ → List ℕ → List ℕ → List ℕ → ℕ → List ℕ → List ℕ → Type 0
PlainExtractMet level earlier line notes buffer returned buffer_left answer_left =
    let a = extracted level earlier line notes buffer in
    (returned ≡ a.refusal) × (buffer_left ≡ buffer_after level earlier line notes buffer) × (answer_left ≡ answered_answer a)
