-- The C face of swapping one tributary in place: the whole statement of the call.
use Rattle.std.specs.Prelude.{◌≡◌, List, [], ◌∷◌, ℕ, length}
use Rattle.swap.specs.Swap.{Swapped}
use Rattle.swap.specs.Swap.{swapped, line_after}

-- answer: digits taken
abbrev pub swapped_answer : Swapped → List ℕ
swapped_answer s = s.digits ∷ []

-- spritbobbin_swap returns the refusal number, and leaves the line and the answer
abbrev pub SwapFaceMet : ℕ → ℕ → ℕ → List ℕ → List ℕ → List ℕ → ℕ → List ℕ → List ℕ → Type 0
SwapFaceMet level earlier tributary line notes buffer returned line_left answer_left =
    let s = swapped level earlier tributary (length line) notes (length buffer) in
    (returned ≡ s.refusal) × (line_left ≡ line_after level earlier tributary line notes buffer) × (answer_left ≡ swapped_answer s)
