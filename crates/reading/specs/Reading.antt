-- What the call that reads notes answers and what it leaves in the notes, refused or not, for any input. Document 01, "Multiplexing and
-- demultiplexing from a known start" and "Refusal numbers"; document 02, request 7. It has no buffer, so that of the lengths only 2 and 3 apply.
use Rattle.std.specs.Prelude.{◌≡◌, cond, List, [], ◌∷◌, ℕ, eqb, length, Result, Ok, Err}
use Rattle.digits.specs.Digits.{digits_of}
use Rattle.table.specs.declared.Row.{Row}
use Rattle.table.specs.Table.{level_of}
use Rattle.levels.specs.Sizes.{on_level, frames_refusal}
use Rattle.refusal.specs.declared.Refusal.{Refusal}
use Rattle.refusal.specs.Refusal.{number_of}
use Rattle.reading.specs.declared.Errors.{Errors}
use Rattle.reading.specs.Notes.{notes_of, alignment_to, dissents_of}

-- the call's answer as numbers: the refusal, 0 for none, and the counts of errors
pub record Noted : Type 0 where
  pub refusal : ℕ
  -- alignment digits that differ from the word, over all frames
  pub alignment : ℕ
  -- digits of each tributary's control groups that differ from their majority, over all frames
  pub dissent : List ℕ

-- "all counts are 0", dissent too
abbrev pub refused_with : ℕ → Noted
refused_with refusal = record { refusal = refusal; alignment = 0; dissent = 0 ∷ 0 ∷ 0 ∷ 0 ∷ [] }

-- the numbers of what the code answers
abbrev pub noted_by : Errors → Noted
noted_by errors = record { refusal = 0; alignment = errors.alignment; dissent = errors.dissent }

abbrev pub numbers_of : Result Errors Refusal → Noted
numbers_of (Ok errors) = noted_by errors
numbers_of (Err refusal) = refused_with (number_of refusal)

-- accepted: the counts of errors of F frames
abbrev pub noted_from : Row → List ℕ → ℕ → Noted
noted_from row ds F = record { refusal = 0; alignment = alignment_to row ds F; dissent = dissents_of row ds F }

-- the answer for a line and so many notes
abbrev pub answer_on : Row → List ℕ → ℕ → Noted
answer_on row line notes =
    cond (eqb (frames_refusal row (length line) notes) 0) (noted_from row (digits_of line) notes)
    (refused_with (frames_refusal row (length line) notes))

abbrev pub noted : ℕ → List ℕ → ℕ → Noted
noted level line notes = on_level (level_of level) (λ (row : Row). answer_on row line notes) (refused_with 1)

-- the notes at the end: those read from the line, or as they were
abbrev pub notes_on : Row → List ℕ → List ℕ → List ℕ
notes_on row line notes =
    cond (eqb (frames_refusal row (length line) (length notes)) 0) (notes_of row (digits_of line) (length notes)) notes

abbrev pub notes_after : ℕ → List ℕ → List ℕ → List ℕ
notes_after level line notes = on_level (level_of level) (λ (row : Row). notes_on row line notes) notes

-- the whole statement of the call: its answer, and the notes that it leaves
abbrev pub ReadNotesMet : ℕ → List ℕ → List ℕ → Noted → List ℕ → Type 0
ReadNotesMet level line notes answer read = (answer ≡ noted level line (length notes)) × (read ≡ notes_after level line notes)
