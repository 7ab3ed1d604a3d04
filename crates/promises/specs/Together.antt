-- Demultiplexing as it was in one call, before document 02's request 7 split it: what it answered and left, as a definition of its own, with the
-- vote before frame 0 that request 10 adds to extraction; and what the two calls in turn answer and leave. proofs/Together.antt has what the one says of the other.
use Rattle.std.specs.Prelude.{◌≡◌, cond, List, [], ◌∷◌, ℕ, ◌/◌, ◌≤◌, ◌<◌, eqb, length}
use Rattle.digits.specs.Digits.{digits_of}
use Rattle.table.specs.declared.Row.{Row}
use Rattle.levels.specs.Faults.{Counted}
use Rattle.table.specs.Table.{level_of}
use Rattle.levels.specs.Sizes.{on_level, size_refusal}
use Rattle.levels.specs.Order.{counts_of}
use Rattle.levels.specs.Faults.{bad_earlier, answered}
use Rattle.reading.specs.Reading.{Noted}
use Rattle.reading.specs.Notes.{notes_of, alignment_to, dissents_of}
use Rattle.reading.specs.Reading.{noted, notes_after}
use Rattle.extraction.specs.Quarters.{quarters_from}
use Rattle.extraction.specs.Extract.{buffer_after}

-- all that is answered, and the notes and the buffer that are left
pub record Outcome : Type 0 where
  pub refusal : ℕ
  pub frame : ℕ
  pub counts : List ℕ
  pub alignment : ℕ
  pub dissent : List ℕ
  pub notes : List ℕ
  pub buffer : List ℕ

abbrev pub zeros : List ℕ
zeros = 0 ∷ 0 ∷ 0 ∷ 0 ∷ []

-- the one call. Refused: "all counts are 0", and notes and buffer are as they were
abbrev pub refused_whole : ℕ → List ℕ → List ℕ → Outcome
refused_whole refusal notes buffer =
    record { refusal = refusal; frame = 0; counts = zeros; alignment = 0; dissent = zeros; notes = notes; buffer = buffer }

-- accepted: the notes that are read from F frames, and the quarters of q bytes that are extracted by them
abbrev pub read_whole : Row → ℕ → List ℕ → ℕ → ℕ → Outcome
read_whole row earlier line F q =
    record {
      refusal = 0;
      frame = 0;
      counts = counts_of row earlier (notes_of row (digits_of line) F) F;
      alignment = alignment_to row (digits_of line) F;
      dissent = dissents_of row (digits_of line) F;
      notes = notes_of row (digits_of line) F;
      buffer = quarters_from row earlier (notes_of row (digits_of line) F) line q;
    }

abbrev pub together_on : Row → ℕ → List ℕ → List ℕ → List ℕ → Outcome
together_on row earlier line notes buffer =
    cond (eqb (size_refusal row (length line) (length notes) (length buffer)) 0)
    (cond (bad_earlier row earlier) (refused_whole 5 notes buffer) (read_whole row earlier line (length notes) (length buffer / 4)))
    (refused_whole (size_refusal row (length line) (length notes) (length buffer)) notes buffer)

abbrev pub together : ℕ → ℕ → List ℕ → List ℕ → List ℕ → Outcome
together level earlier line notes buffer = on_level (level_of level) (λ (row : Row). together_on row earlier line notes buffer) (refused_whole 1 notes buffer)

-- the two calls in turn: the second is lent the notes as the first leaves them
abbrev pub second : Noted → Counted → List ℕ → List ℕ → Outcome
second first answer notes buffer =
    record {
      refusal = answer.refusal;
      frame = answer.frame;
      counts = answer.counts;
      alignment = first.alignment;
      dissent = first.dissent;
      notes = notes;
      buffer = buffer;
    }

-- the first was accepted, and the second refused with this number
abbrev pub refused_second : Noted → ℕ → List ℕ → List ℕ → Outcome
refused_second first refusal notes buffer = second first (record { refusal = refusal; frame = 0; counts = zeros }) notes buffer

-- where the first refuses, the second is not called
abbrev pub first_only : Noted → List ℕ → List ℕ → Outcome
first_only first notes buffer =
    record { refusal = first.refusal; frame = 0; counts = zeros; alignment = first.alignment; dissent = first.dissent; notes = notes; buffer = buffer }

abbrev pub in_turn : ℕ → ℕ → List ℕ → List ℕ → List ℕ → Outcome
in_turn level earlier line notes buffer =
    cond (eqb (noted level line (length notes)).refusal 0)
    (second (noted level line (length notes)) (answered level earlier (length line) (notes_after level line notes) (length buffer)) (notes_after level line notes)
    (buffer_after level earlier line (notes_after level line notes) buffer))
    (first_only (noted level line (length notes)) (notes_after level line notes) buffer)

-- "On every input that it accepted the two answer as it did; where only the buffer is at fault (4), the notes are by then written", and so where
-- the earlier vote is (5): and where it refused with another number, so do they, and leave all as it was
pub record Split (level earlier : ℕ) (line notes buffer : List ℕ) : Type 0 where
  pub same : (together level earlier line notes buffer).refusal < 4 → in_turn level earlier line notes buffer ≡ together level earlier line notes buffer
  pub second_refused : 4 ≤ (together level earlier line notes buffer).refusal
      → in_turn level earlier line notes buffer
      ≡ refused_second (noted level line (length notes)) (together level earlier line notes buffer).refusal (notes_after level line notes) buffer
  pub written : 4 ≤ (together level earlier line notes buffer).refusal → (noted level line (length notes)).refusal ≡ 0

-- "the notes are by then written", of what is left: the notes are those that a reading of as many frames finds, whatever they were, and the buffer is as it was
pub record ByThenWritten (level earlier : ℕ) (line notes buffer : List ℕ) : Type 0 where
  pub read : (in_turn level earlier line notes buffer).notes ≡ on_level (level_of level) (λ (row : Row). notes_of row (digits_of line) (length notes)) notes
  pub kept : (in_turn level earlier line notes buffer).buffer ≡ buffer
