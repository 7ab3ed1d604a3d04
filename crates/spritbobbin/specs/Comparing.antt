-- The C face of the comparisons, of two captures, of two lines and of a stretch of them: how each answer passes as numbers, and the whole statement of
-- each call.
use Rattle.std.specs.Prelude.{◌≡◌, List, [], ◌∷◌, ℕ, get_or}
use Rattle.differing.specs.declared.Compared.{Compared}
use Rattle.compare.specs.declared.lines.Stretch.{Stretch}
use Rattle.compare.specs.Compare.{compared_of, listed_of}
use Rattle.compare.specs.Lines.{lines_of, lines_listed, stretch_of}

-- answer: file at fault (0, 1, 2), named byte; word, remote alarm, national; control, justification, ordinary of tributary 1, of 2, of 3, of 4;
-- all differing digits, how many are listed
abbrev pub compared_answer : Compared → List ℕ
compared_answer c =
    c.file
    ∷ c.byte
    ∷ get_or c.sums 0 0
    ∷ get_or c.sums 1 0
    ∷ get_or c.sums 2 0
    ∷ get_or c.sums 3 0
    ∷ get_or c.sums 4 0
    ∷ get_or c.sums 5 0
    ∷ get_or c.sums 6 0
    ∷ get_or c.sums 7 0
    ∷ get_or c.sums 8 0
    ∷ get_or c.sums 9 0
    ∷ get_or c.sums 10 0
    ∷ get_or c.sums 11 0
    ∷ get_or c.sums 12 0
    ∷ get_or c.sums 13 0
    ∷ get_or c.sums 14 0
    ∷ c.all
    ∷ c.listed
    ∷ []

-- spritbobbin_compare returns the refusal number, and leaves the answer and the places, which it was lent with these numbers
abbrev pub ComparisonMet : List ℕ → List ℕ → List ℕ → ℕ → List ℕ → List ℕ → Type 0
ComparisonMet one other places_lent returned answer_left places_left =
    let c = compared_of one other in
    (returned ≡ c.refusal) × (answer_left ≡ compared_answer c) × (places_left ≡ listed_of one other places_lent)

-- the fifteen sums in the order of `compared_answer`; all differing digits, how many are listed
abbrev pub lines_answer : Compared → List ℕ
lines_answer c =
    get_or c.sums 0 0
    ∷ get_or c.sums 1 0
    ∷ get_or c.sums 2 0
    ∷ get_or c.sums 3 0
    ∷ get_or c.sums 4 0
    ∷ get_or c.sums 5 0
    ∷ get_or c.sums 6 0
    ∷ get_or c.sums 7 0
    ∷ get_or c.sums 8 0
    ∷ get_or c.sums 9 0
    ∷ get_or c.sums 10 0
    ∷ get_or c.sums 11 0
    ∷ get_or c.sums 12 0
    ∷ get_or c.sums 13 0
    ∷ get_or c.sums 14 0
    ∷ c.all
    ∷ c.listed
    ∷ []

-- spritbobbin_compare_lines returns the refusal number, and leaves the answer and the places
abbrev pub LineComparisonMet : ℕ → List ℕ → List ℕ → List ℕ → ℕ → List ℕ → List ℕ → Type 0
LineComparisonMet level one other places_lent returned answer_left places_left =
    let c = lines_of level one other in
    (returned ≡ c.refusal) × (answer_left ≡ lines_answer c) × (places_left ≡ lines_listed level one other places_lent)

-- the fifteen sums in the same order; all differing digits
abbrev pub stretch_answer : Stretch → List ℕ
stretch_answer t =
    get_or t.sums 0 0
    ∷ get_or t.sums 1 0
    ∷ get_or t.sums 2 0
    ∷ get_or t.sums 3 0
    ∷ get_or t.sums 4 0
    ∷ get_or t.sums 5 0
    ∷ get_or t.sums 6 0
    ∷ get_or t.sums 7 0
    ∷ get_or t.sums 8 0
    ∷ get_or t.sums 9 0
    ∷ get_or t.sums 10 0
    ∷ get_or t.sums 11 0
    ∷ get_or t.sums 12 0
    ∷ get_or t.sums 13 0
    ∷ get_or t.sums 14 0
    ∷ t.all
    ∷ []

-- spritbobbin_compare_stretch returns the refusal number, and leaves the answer
abbrev pub StretchComparisonMet : ℕ → List ℕ → List ℕ → ℕ → ℕ → ℕ → List ℕ → Type 0
StretchComparisonMet level one other first count returned answer_left =
    let t = stretch_of level one other first count in (returned ≡ t.refusal) × (answer_left ≡ stretch_answer t)
