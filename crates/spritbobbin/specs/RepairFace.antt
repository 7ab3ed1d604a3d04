-- The C face of repairing a worn line in place: how its answer passes as numbers in a fixed array, and the whole statement of the call.
use Rattle.std.specs.Prelude.{◌≡◌, List, [], ◌∷◌, ℕ, get_or}
use Rattle.digits.specs.Digits.{is_yes}
use Rattle.repair.specs.Repair.{Repaired}
use Rattle.repair.specs.Repair.{repaired, line_after}

-- answer: changed digits of the word, of the control groups of tributaries 1 to 4, stuffing digits of tributaries 1 to 4, national digits
abbrev pub repaired_answer : Repaired → List ℕ
repaired_answer r =
    r.word
    ∷ get_or r.control 0 0
    ∷ get_or r.control 1 0
    ∷ get_or r.control 2 0
    ∷ get_or r.control 3 0
    ∷ get_or r.stuffing 0 0
    ∷ get_or r.stuffing 1 0
    ∷ get_or r.stuffing 2 0
    ∷ get_or r.stuffing 3 0
    ∷ r.national
    ∷ []

-- spritbobbin_repair returns the refusal number, and leaves the line and the answer; the switch is off at 0 and on at any other number
abbrev pub RepairFaceMet : ℕ → ℕ → ℕ → List ℕ → ℕ → List ℕ → List ℕ → Type 0
RepairFaceMet level earlier national line returned line_left answer_left =
    let r = repaired level earlier (is_yes national) line in
    (returned ≡ r.refusal) × (line_left ≡ line_after level earlier (is_yes national) line) × (answer_left ≡ repaired_answer r)
