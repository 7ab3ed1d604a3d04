-- "The notes and tributaries read from the result are those read from the input": whatever notes and buffer the two calls that read are lent. With the switch
-- on "the notes read back then differ in those bits alone", the national ones, which are then 1.
use Rattle.std.specs.Prelude.{Some}
use mathlib.Core.Path.{◌≡◌, refl, sym, ◌∙◌, ap}
use mathlib.Core.Logic.{◌≢◌}
use mathlib.Core.Bool.{Bool}
use mathlib.Core.List.{List}
use Prim.Native.Nat.{ℕ, ◌+◌, ◌*◌, ◌/◌, ◌%◌, ◌<◌}
use native.Mathlib.Omega.{arith}
use native.Mathlib.Decide.{ℕ_discrete}
use lib.Dec.{lit<}
use lib.ListN.{length, get_or}
use borrow.Author.Tests.{eq-eqb, ne_eqb}
use Rattle.digits.specs.Digits.{digits_of}
use Rattle.digits.proofs.Laws.{digits-binary, tab-length}
use Rattle.digits.proofs.Sums.{sum-all}
use Rattle.table.specs.declared.Row.{Row}
use Rattle.table.specs.Table.{level_of}
use Rattle.levels.specs.declared.vote.Vote.{Vote}
use Rattle.levels.specs.Table.{Shared}
use Rattle.levels.specs.Sizes.{frames_of, frames_refusal, size_refusal}
use Rattle.levels.specs.Places.{kind_at, pos_of}
use Rattle.levels.specs.Order.{actions, carries, count_of}
use Rattle.levels.specs.Faults.{fault_of}
use Rattle.levels.specs.Word.{wrong_digits}
use Rattle.levels.proofs.Columns.{columns, frame-start}
use Rattle.levels.proofs.Judged.{framed, accepted}
use Rattle.levels.proofs.Refusals.{EarlierFits, NotesFit, fault-of-size, fit-faultless}
use Rattle.reading.specs.Reading.{Noted}
use Rattle.reading.specs.Notes.{vote_at, note_of, notes_of, alignment_to, dissent_to}
use Rattle.reading.specs.Reading.{noted_from, refused_with, noted}
use Rattle.extraction.specs.Quarters.{taken_to, quarter_from, quarters_from}
use Rattle.promises.proofs.Order.{column-place, places_same, count_same, digits_same}
use Rattle.promises.proofs.Reading.{note-fits}
use Rattle.promises.proofs.Accepted.{zero-refusal}
use Rattle.repair.specs.Repair.{Repaired}
use Rattle.repair.specs.Repair.{repaired_digit, repaired_line}
use Rattle.repair.specs.Mending.{Whole}
use Rattle.repair.proofs.Frames.{frames-digits}
use Rattle.repair_promises.specs.Repairing.{Repairs, ReadsTheSame, ReadsTheSameAt}
use Rattle.repair_promises.proofs.Places.{carried-stays, repaired-length, repaired-at, vote-repaired, word-repaired, notes-repaired, acts-repaired}
use Rattle.repair_promises.proofs.Accepted.{repair-level, repair-vote, repair-whole, repair-line}

-- two readings' notes are judged alike
fault-same : (row : Row) (earlier line : ℕ) (a b : List ℕ) (buffer : ℕ) → length a ≡ length b → EarlierFits row earlier → NotesFit row a → NotesFit row b
    → fault_of row earlier line a buffer ≡ fault_of row earlier line b buffer
fault-same row earlier line a b buffer long vote fit-a fit-b =
    elim (ℕ_discrete (size_refusal row line (length b) buffer) 0) [
      | yes z ↦
          let sizes = accepted row line (length b) buffer z in
          fit-faultless row earlier line a buffer (rw long sizes) vote fit-a ∙ sym (fit-faultless row earlier line b buffer sizes vote fit-b)
      | no n ↦ sym (fault-of-size row earlier line a buffer (rw long n)) ∙ rw long (fault-of-size row earlier line b buffer n)
    ]

module _ (row : Row) (earlier : ℕ) (national : Bool) (line : List ℕ) (wh : Whole row line) where
  abbrev F : ℕ
  F = frames_of row (length line)

  abbrev sh : Shared row
  sh = wh.shared

  abbrev left : List ℕ
  left = repaired_line row earlier national line

  -- the notes that are read from the input, and those that are read from the result
  abbrev before : List ℕ
  before = notes_of row (digits_of line) F

  abbrev after : List ℕ
  after = notes_of row (digits_of left) F

  -- no error is left
  aligned : alignment_to row (digits_of left) F ≡ 0
  aligned = sum-all F 0 (λ (f : ℕ). wrong_digits row (digits_of left) (f * row.digits)) (word-repaired row earlier national line wh) ∙ omega arith

  unanimous : (j : ℕ) → j < 4 → dissent_to row (digits_of left) j F ≡ 0
  unanimous j hj =
      sum-all F 0 (λ (f : ℕ). (vote_at row (digits_of left) f j).dissent) (λ f hf. ap (λ (v : Vote). v.dissent) (vote-repaired row earlier national line wh f hf j hj)) ∙ omega arith

  -- what each frame does stays, and every digit that is carried, so the counts and the quarters are the same
  counted_same : (j : ℕ) → j < 4 → count_of row (actions row earlier after j) F ≡ count_of row (actions row earlier before j) F
  counted_same j hj = count_same row (actions row earlier after j) (actions row earlier before j) F (acts-repaired row earlier national line wh j hj)

  taken-same : (j : ℕ) → j < 4 → taken_to row earlier after (digits_of left) j (2 * length line) ≡ taken_to row earlier before (digits_of line) j (2 * length line)
  unfolding taken_to carries repaired_digit
  taken-same j hj =
      let all : 2 * length line ≡ F * columns row = omega (arith, frames-digits wh, frame-start row sh j hj F) in
      rw (all, places_same row sh F j hj (actions row earlier after j) (actions row earlier before j) (acts-repaired row earlier national line wh j hj) (F * columns row) (omega arith))
      (digits_same row (actions row earlier before j) j (digits_of left) (digits_of line) (F * columns row)
      (λ x h c.
      let p = 4 * x + j in
      let f = (pos_of row p).frame in
      let w : p % 4 ≡ j = omega arith in
      repaired-at row earlier national line p (omega (arith, column-place row sh F j hj x h, frames-digits wh))
      ∙ rw w
      (carried-stays row national (vote_at row (digits_of line) f j).stuffed (actions row earlier before j f) (pos_of row p).place (get_or (digits_of line) p 0) (kind_at row p) c)))

  quarter-same : (q j : ℕ) → j < 4 → quarter_from row earlier after left q j ≡ quarter_from row earlier before line q j
  unfolding quarter_from
  quarter-same q j hj = rw (repaired-length row earlier national line, taken-same j hj)

  quarters-same : (q : ℕ) → quarters_from row earlier after left q ≡ quarters_from row earlier before line q
  unfolding quarters_from
  quarters-same q = rw (quarter-same q 0 (lit< tt), quarter-same q 1 (lit< tt), quarter-same q 2 (lit< tt), quarter-same q 3 (lit< tt))

  -- the second call's refusals too: notes that were read fit
  read_fits : (other : List ℕ) → NotesFit row (notes_of row (digits_of other) F)
  read_fits other f hf = note-fits row (digits_of other) (digits-binary other) f sh F (omega (arith, tab-length F 0 (note_of row (digits_of other))))

  judged-same : EarlierFits row earlier → (buffer : ℕ) → fault_of row earlier (length line) after buffer ≡ fault_of row earlier (length line) before buffer
  judged-same vote buffer =
      fault-same row earlier (length line) after before buffer (tab-length F 0 (note_of row (digits_of left)) ∙ sym (tab-length F 0 (note_of row (digits_of line)))) vote (read_fits left) (read_fits line)

  module _ (level : ℕ) (e : level_of level ≡ Some row) (vote : EarlierFits row earlier) (notes buffer : List ℕ) where
    abbrev number : ℕ
    number = frames_refusal row (length line) (length notes)

    none : (noted level line (length notes)).refusal ≡ 0 → number ≡ 0
    none ok = zero-refusal (λ (r : Noted). r.refusal) number (noted_from row (digits_of line) (length notes)) (refused_with number) refl (rw e at ok)

    some : (noted level line (length notes)).refusal ≢ 0 → number ≢ 0
    some n z = n (rw (e, eq-eqb number 0 z))

  reads_on : (level : ℕ) → level_of level ≡ Some row → EarlierFits row earlier → ReadsTheSame row level earlier national line left
  reads_on level e vote =
      record {
        accepted = λ notes buffer ok.
            let z = none level e vote notes buffer ok in
            rw (
              e,
              repaired-length row earlier national line,
              eq-eqb (number level e vote notes buffer) 0 z,
              (framed row (length line) (length notes) z).noted,
              judged-same vote (length buffer),
              tab-length F 0 (note_of row (digits_of left)),
              tab-length F 0 (note_of row (digits_of line)),
              counted_same 0 (lit< tt),
              counted_same 1 (lit< tt),
              counted_same 2 (lit< tt),
              counted_same 3 (lit< tt),
              aligned,
              unanimous 0 (lit< tt),
              unanimous 1 (lit< tt),
              unanimous 2 (lit< tt),
              unanimous 3 (lit< tt),
              quarters-same (length buffer / 4),
              notes-repaired row earlier national line wh,
            );
        refused = λ notes buffer no_Ok.
            let n = some level e vote notes buffer no_Ok in
            rw (e, repaired-length row earlier national line, ne_eqb (number level e vote notes buffer) 0 n) (rw (ne_eqb (number level e vote notes buffer) 0 n));
      }

-- what is read from the result is what is read from the input
pub reads-the-same : (level earlier : ℕ) (national : Bool) (line : List ℕ) (answer : Repaired) (new : List ℕ) → Repairs level earlier national line answer new
    → ReadsTheSameAt level earlier national line new
reads-the-same level earlier national line answer new ok = let on = repair-level level earlier national line answer new ok in go on.0 on.1
  where
    go : (row : Row) → level_of level ≡ Some row → ReadsTheSameAt level earlier national line new
    go row e =
        rw (e, repair-line level earlier national line answer new ok row e)
        (reads_on row earlier national line (repair-whole level earlier national line answer new ok row e) level e (repair-vote level earlier national line answer new ok row e))
