-- The C face of the late multiplexer: the whole statement of the call.
use Rattle.std.specs.Prelude.{◌≡◌, List, ℕ, length}
use Rattle.late.specs.Late.{late_answer, late_left}
use Rattle.spritbobbin.specs.Face.{counted_answer}

-- spritbobbin_late_multiplex returns the refusal number, and leaves the line and the answer
abbrev pub LateFaceMet : ℕ → ℕ → List ℕ → List ℕ → List ℕ → ℕ → List ℕ → List ℕ → Type 0
LateFaceMet level earlier line notes buffer returned line_left answer_left =
    let m = late_answer level earlier (length line) notes (length buffer) in
    (returned ≡ m.refusal) × (line_left ≡ late_left level earlier line notes buffer) × (answer_left ≡ counted_answer m)
