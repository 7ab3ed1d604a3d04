-- THE THEOREM of request 9, call by call: on every input, refused or not, both engines give the same answer and leave the same slice. It is
-- said of their contracts: whatever meets the one and whatever meets the other are alike.
use Rattle.std.specs.Prelude.{Option, Some, None}
use mathlib.Core.Path.{◌≡◌, refl, sym, ◌∙◌, ap}
use mathlib.Core.Bool.{Bool, cond, true, false}
use mathlib.Core.List.{List}
use Prim.Native.Nat.{ℕ, ◌*◌, ◌/◌}
use lib.Dec.{eqb}
use lib.ListN.{length}
use Rattle.digits.specs.Digits.{digits_of}
use Rattle.table.specs.declared.Row.{Row}
use Rattle.table.specs.Table.{level_of}
use Rattle.levels.specs.Faults.{Counted}
use Rattle.levels.specs.Table.{Shared}
use Rattle.levels.specs.Sizes.{on_level, frames_refusal}
use Rattle.levels.specs.Faults as faults
use Rattle.levels.proofs.Rows.{shared-row}
use Rattle.levels.proofs.Refusals.{send-faultless}
use Rattle.multiplex.specs.Multiplex as multiplex
use Rattle.reading.specs.Reading.{Noted}
use Rattle.reading.specs.Notes.{notes_of}
use Rattle.reading.specs.Reading as reading
use Rattle.extraction.specs.Extract as extraction
use Rattle.engine.specs.Engine.{Answered, NotesRead}
use Rattle.engine.specs.Engine as plain
use Rattle.plain_promises.specs.Same.{SameCounted, SameNoted}
use Rattle.plain_promises.proofs.Line.{line_same}
use Rattle.plain_promises.proofs.Notes.{notes-same, alignment-same, dissents-same}
use Rattle.plain_promises.proofs.Quarters.{quarters-same}
use Rattle.plain_promises.proofs.Judging.{same-faults, same-send-faults, sound, answer-same, left-same}

-- ---- multiplexing

pub same-multiplexing : (level earlier : ℕ) (line notes buffer : List ℕ) (a : Counted) (l : List ℕ) (b : Answered) (m : List ℕ)
    → multiplex.Met level earlier line notes buffer a l → plain.MultiplexMet level earlier line notes buffer b m → SameCounted a b × (l ≡ m)
same-multiplexing level earlier line notes buffer a l b m x y = rw (x.0, x.1, y.answered, y.written) (go (level_of level) refl)
  where
    go : (found : Option Row) → level_of level ≡ found
        → SameCounted (on_level found (λ (row : Row). faults.send_answer_on row earlier (length line) notes (length buffer)) (faults.refused_with (faults.fault 1 0)))
        (plain.on_level found (λ (row : Row). plain.answer_by row earlier (length line) notes (plain.sending_on row earlier (length line) notes (length buffer)))
        (record { refusal = 1; frame = 0; counts = plain.none }))
        × (on_level found (λ (row : Row). multiplex.line_on row earlier line notes buffer) line
        ≡ plain.on_level found (λ (row : Row). plain.sent_line row earlier line notes buffer (plain.sending_on row earlier (length line) notes (length buffer))) line)
    go (Some row) e =
        let sh = shared-row level row e in
        let sent = line_same row sh earlier notes buffer (length line) in
        let same = same-send-faults row sh earlier (length line) notes (length buffer) in (
          answer-same _ _ same row sh earlier (length line) notes
              (λ z. (sound row sh earlier (length line) notes (length buffer) (send-faultless row earlier (length line) notes (length buffer) z).0).0),
          left-same _ _ same _ line _ (λ _. sent),
        )
    go None e = (record { refusal = refl; frame = refl; counts = refl }, refl)

-- ---- reading the notes

module _ (row : Row) (sh : Shared row) (line notes : List ℕ) where
  abbrev no : ℕ
  no = frames_refusal row (length line) (length notes)

  judged : no ≡ plain.reading_on row (length line) (length notes)
  unfolding frames_refusal plain.reading_on
  judged = refl

  read-on-row : SameNoted (reading.answer_on row line (length notes)) (plain.read_answer row line (length notes) (plain.reading_on row (length line) (length notes)))
      × (reading.notes_on row line notes ≡ plain.read_left row line notes (plain.reading_on row (length line) (length notes)))
  read-on-row = rw (← judged) (go (eqb no 0))
    where
      F : ℕ
      F = length notes

      go : (t : Bool)
          → SameNoted (cond t (reading.noted_from row (digits_of line) F) (reading.refused_with no))
          (cond t (record { refusal = 0; alignment = plain.alignment_to row line F; dissent = plain.dissents_to row line F }) (record { refusal = no; alignment = 0; dissent = plain.none }))
          × (cond t (notes_of row (digits_of line) F) notes ≡ cond t (plain.notes_to row line F) notes)
      go true =
          (record { refusal = refl; alignment = sym (alignment-same row sh line F); dissent = sym (dissents-same row sh line F) }, sym (notes-same row sh line F))
      go false = (record { refusal = refl; alignment = refl; dissent = refl }, refl)

pub same-reading : (level : ℕ) (line notes : List ℕ) (a : Noted) (l : List ℕ) (b : NotesRead) (m : List ℕ)
    → reading.ReadNotesMet level line notes a l → plain.ReadNotesMet level line notes b m → SameNoted a b × (l ≡ m)
same-reading level line notes a l b m x y = rw (x.0, x.1, y.answered, y.written) (go (level_of level) refl)
  where
    go : (found : Option Row) → level_of level ≡ found
        → SameNoted (on_level found (λ (row : Row). reading.answer_on row line (length notes)) (reading.refused_with 1))
        (plain.on_level found (λ (row : Row). plain.read_answer row line (length notes) (plain.reading_on row (length line) (length notes)))
        (record { refusal = 1; alignment = 0; dissent = plain.none }))
        × (on_level found (λ (row : Row). reading.notes_on row line notes) notes
        ≡ plain.on_level found (λ (row : Row). plain.read_left row line notes (plain.reading_on row (length line) (length notes))) notes)
    go (Some row) e = read-on-row row (shared-row level row e) line notes
    go None e = (record { refusal = refl; alignment = refl; dissent = refl }, refl)

-- ---- extraction

pub same-extraction : (level earlier : ℕ) (line notes buffer : List ℕ) (a : Counted) (l : List ℕ) (b : Answered) (m : List ℕ)
    → extraction.ExtractMet level earlier line notes buffer a l → plain.ExtractMet level earlier line notes buffer b m → SameCounted a b × (l ≡ m)
same-extraction level earlier line notes buffer a l b m x y = rw (x.0, x.1, y.answered, y.written) (go (level_of level) refl)
  where
    go : (found : Option Row) → level_of level ≡ found
        → SameCounted (on_level found (λ (row : Row). faults.answer_on row earlier (length line) notes (length buffer)) (faults.refused_with (faults.fault 1 0)))
        (plain.on_level found (λ (row : Row). plain.answer_by row earlier (length line) notes (plain.refusal_on row earlier (length line) notes (length buffer)))
        (record { refusal = 1; frame = 0; counts = plain.none }))
        × (on_level found (λ (row : Row). extraction.buffer_on row earlier line notes buffer) buffer
        ≡ plain.on_level found (λ (row : Row). plain.taken_buffer row earlier line notes buffer (plain.refusal_on row earlier (length line) notes (length buffer))) buffer)
    go (Some row) e =
        let sh = shared-row level row e in
        let same = same-faults row sh earlier (length line) notes (length buffer) in
        let q = length buffer / 4 in (
          answer-same _ _ same row sh earlier (length line) notes (λ z. (sound row sh earlier (length line) notes (length buffer) z).0),
          left-same _ _ same _ buffer _
              (λ z.
              let ok = sound row sh earlier (length line) notes (length buffer) z in
              quarters-same row sh earlier notes line q ok.0 ok.2 ∙ ap (λ (n : ℕ). plain.packed n (plain.handed_at row earlier notes line (8 * q))) (sym ok.1)),
        )
    go None e = (record { refusal = refl; frame = refl; counts = refl }, refl)
