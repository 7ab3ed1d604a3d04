-- The C face of the verdict on a line: how its answer passes as numbers in a fixed array, and the whole statement of the call.
use Rattle.std.specs.Prelude.{◌≡◌, List, [], ◌∷◌, ℕ, get_or}
use Rattle.judge.specs.Verdict.{Judged, judged}

-- answer, for each tributary: readings that fit, wrong digits by its own frame, by the frame before, by the frame after, frames whose decision differs from the
-- frame before
abbrev pub judged_answer : Judged → List ℕ
judged_answer r =
    get_or r.fits 0 0
    ∷ get_or r.own 0 0
    ∷ get_or r.before 0 0
    ∷ get_or r.after 0 0
    ∷ get_or r.changes 0 0
    ∷ get_or r.fits 1 0
    ∷ get_or r.own 1 0
    ∷ get_or r.before 1 0
    ∷ get_or r.after 1 0
    ∷ get_or r.changes 1 0
    ∷ get_or r.fits 2 0
    ∷ get_or r.own 2 0
    ∷ get_or r.before 2 0
    ∷ get_or r.after 2 0
    ∷ get_or r.changes 2 0
    ∷ get_or r.fits 3 0
    ∷ get_or r.own 3 0
    ∷ get_or r.before 3 0
    ∷ get_or r.after 3 0
    ∷ get_or r.changes 3 0
    ∷ []

-- spritbobbin_judge returns the refusal number, and leaves the answer
abbrev pub JudgeFaceMet : ℕ → ℕ → List ℕ → ℕ → List ℕ → ℕ → List ℕ → Type 0
JudgeFaceMet level earlier line pattern buffer returned answer_left =
    let r = judged level earlier line pattern buffer in
    (returned ≡ r.refusal) × (answer_left ≡ judged_answer r)
