-- Reading the notes of a line: each decision by the majority of its control group in its own frame, the service digits as they came,
-- and the counts of errors. Document 01, "The note of a frame" and "Multiplexing and demultiplexing from a known start"; document 02,
-- request 2.
use Rattle.std.specs.Prelude.{Bool, cond, List, [], ◌∷◌, ℕ, ◌+◌, ◌*◌, ltb, get_or}
use Rattle.digits.specs.Digits.{tab}
use Rattle.digits.specs.Sums.{sum_to}
use Rattle.table.specs.declared.Row.{Row}
use Rattle.levels.specs.declared.vote.Vote.{Vote}
use Rattle.levels.specs.Places.{noted_of}
use Rattle.levels.specs.Vote.{vote_of, group_of}
use Rattle.levels.specs.Word.{wrong_digits}

-- the vote of tributary j (from 0) in frame f: its control group has a digit in every set after the first; ds are the line's digits
unfoldable pub vote_at : Row → List ℕ → ℕ → ℕ → Vote
vote_at row ds f j = vote_of (group_of ds (f * row.digits + (row.set + j)) row.set row.control)

-- service digit k of frame f as it came, the remote alarm digit first, then the national digits; 0 where a note of the level has not so many
unfoldable pub service_at : Row → List ℕ → ℕ → ℕ → ℕ
service_at row ds f k = cond (ltb k (noted_of row)) (get_or ds (f * row.digits + (row.alarm + k)) 0) 0

abbrev pub bit_of : Bool → ℕ
bit_of t = cond t 1 0

-- "Bits 0 to 3 (values 1, 2, 4, 8): tributary 1 to 4 is stuffed. Bit 4: remote alarm digit. Bit 5: first national digit. Bits 6 and 7:
-- second and third national digit"
unfoldable pub note_of : Row → List ℕ → ℕ → ℕ
note_of row ds f =
    bit_of (vote_at row ds f 0).stuffed
    + 2 * bit_of (vote_at row ds f 1).stuffed
    + 4 * bit_of (vote_at row ds f 2).stuffed
    + 8 * bit_of (vote_at row ds f 3).stuffed
    + 16 * service_at row ds f 0
    + 32 * service_at row ds f 1
    + 64 * service_at row ds f 2
    + 128 * service_at row ds f 3

-- the notes of F frames
abbrev pub notes_of : Row → List ℕ → ℕ → List ℕ
notes_of row ds F = tab F 0 (note_of row ds)

-- "how many alignment digits differ from the word, over all frames": of the first F
abbrev pub alignment_to : Row → List ℕ → ℕ → ℕ
alignment_to row ds F = sum_to F (λ (f : ℕ). wrong_digits row ds (f * row.digits))

-- "dissenting digits for each tributary": of tributary j (from 0), the digits of its control groups that differ from their own majority,
-- over the first F frames; and of the four tributaries
abbrev pub dissent_to : Row → List ℕ → ℕ → ℕ → ℕ
dissent_to row ds j F = sum_to F (λ (f : ℕ). (vote_at row ds f j).dissent)

abbrev pub dissents_of : Row → List ℕ → ℕ → List ℕ
dissents_of row ds F = dissent_to row ds 0 F ∷ dissent_to row ds 1 F ∷ dissent_to row ds 2 F ∷ dissent_to row ds 3 F ∷ []

-- those of frame f alone, and four counts with four more
abbrev pub dissents_in : Row → List ℕ → ℕ → List ℕ
dissents_in row ds f =
    (vote_at row ds f 0).dissent ∷ (vote_at row ds f 1).dissent ∷ (vote_at row ds f 2).dissent ∷ (vote_at row ds f 3).dissent ∷ []

abbrev pub four_sums : List ℕ → List ℕ → List ℕ
four_sums a b = (get_or a 0 0 + get_or b 0 0) ∷ (get_or a 1 0 + get_or b 1 0) ∷ (get_or a 2 0 + get_or b 2 0) ∷ (get_or a 3 0 + get_or b 3 0) ∷ []
