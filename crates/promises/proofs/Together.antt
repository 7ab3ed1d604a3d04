-- Demultiplexing split in two: the two calls in turn answer and leave what the one call did, on every input; but where it found only too little
-- room in the buffer (4) or a bad earlier vote (5), the notes are by then written.
use Rattle.std.specs.Prelude.{Option, Some, None}
use mathlib.Core.Path.{◌≡◌, refl, sym, ◌∙◌, ap}
use mathlib.Core.Logic.{◌≢◌}
use mathlib.Core.Bool.{Bool, cond, true, false}
use mathlib.Core.List.{List}
use Prim.Native.Nat.{ℕ, ◌≤◌, ◌<◌}
use native.Mathlib.Omega.{arith}
use native.Mathlib.Decide.{ℕ_discrete}
use lib.Dec.{eqb, lit≤}
use lib.ListN.{length}
use borrow.Author.Tests.{eq-eqb, ne_eqb, eqb-false}
use Rattle.digits.specs.Digits.{digits_of}
use Rattle.digits.proofs.Laws.{digits-binary, tab-length}
use Rattle.table.specs.declared.Row.{Row}
use Rattle.table.specs.Table.{level_of}
use Rattle.levels.specs.Sizes.{on_level, bad_line, bad_notes, bad_buffer, frames_refusal, size_refusal, Accepted}
use Rattle.levels.specs.Faults.{fault, bad_earlier, fault_of}
use Rattle.levels.proofs.Choice.{cond-by}
use Rattle.levels.proofs.Rows.{shared-row}
use Rattle.levels.proofs.Judged.{accepted}
use Rattle.levels.proofs.Refusals.{NotesFit, fault-of-size, fault-of-earlier, fit-faultless}
use Rattle.reading.specs.Notes.{note_of, notes_of}
use Rattle.reading.specs.Reading.{Noted}
use Rattle.reading.specs.Reading.{refused_with, noted_from, noted, notes_after}
use Rattle.promises.specs.Together.{Outcome, together, Split, ByThenWritten}
use Rattle.promises.proofs.Reading.{note-fits}

-- 2 and 3 are no 4
frames_small : (row : Row) (line notes : ℕ) → frames_refusal row line notes ≤ 3
unfolding frames_refusal
frames_small row line notes =
    let small : ℕ → Type 0 = λ (n : ℕ). n ≤ 3 in
    cond-by small (bad_line row line) (lit≤ tt) (cond-by small (bad_notes row line notes) (lit≤ tt) (lit≤ tt))

module _ (level earlier : ℕ) (line notes buffer : List ℕ) (row : Row) (e : level_of level ≡ Some row) where
  abbrev F : ℕ
  F = length notes

  abbrev frames : ℕ
  frames = frames_refusal row (length line) F

  abbrev size : ℕ
  size = size_refusal row (length line) F (length buffer)

  -- the notes that are read
  abbrev read : List ℕ
  read = notes_of row (digits_of line) F

  read_length : length read ≡ F
  read_length = tab-length F 0 (note_of row (digits_of line))

  size_is : eqb frames 0 ≡ false → size ≡ frames
  unfolding size_refusal
  size_is none = rw none

  size-by : frames ≡ 0 → (t : Bool) → bad_buffer row (length line) (length buffer) ≡ t → size ≡ cond t 4 0
  unfolding size_refusal
  size-by z t e = rw (eq-eqb frames 0 z, e)

  -- refused for the line or the notes
  refused-first : frames ≢ 0 → Split level earlier line notes buffer
  refused-first n =
      let none = ne_eqb frames 0 n in
      let is = size_is none in
      let told : (together level earlier line notes buffer).refusal ≡ frames = rw (e, is, none) in
      record {
        same = λ _. rw (e, is, none, none);
        second_refused = λ late. absurd (other (rw told at late));
        written = λ late. absurd (other (rw told at late));
      }
    where
      other : 4 ≤ frames → ⊥
      other h = omega (arith, frames_small row (length line) F)

  -- refused for the buffer or the earlier vote, when the notes are read
  refused-second : frames ≡ 0 → (number : ℕ) → 4 ≤ number → (together level earlier line notes buffer).refusal ≡ number
      → fault number 0 ≡ fault_of row earlier (length line) read (length buffer) → Split level earlier line notes buffer
  refused-second z number high told found =
      record {
        same = λ low. absurd (both (rw told at low));
        second_refused = λ _. rw (told, e, z, ← found, ne_eqb number 0 (λ zero. omega arith));
        written = λ _. rw (e, z);
      }
    where
      both : number < 4 → ⊥
      both low = omega arith

  short-of-room : frames ≡ 0 → size ≡ 4 → Split level earlier line notes buffer
  short-of-room z four =
      let short : size_refusal row (length line) (length read) (length buffer) ≡ 4 = ap (λ (k : ℕ). size_refusal row (length line) k (length buffer)) read_length ∙ four in
      refused-second z 4 (lit≤ tt) (rw (e, four))
      (ap (λ (k : ℕ). fault k 0) (sym short) ∙ fault-of-size row earlier (length line) read (length buffer) (λ h. some (sym short ∙ h)))
    where
      some : ◌≡◌ {A = ℕ} 4 0 → ⊥
      some e = omega arith

  -- the lengths are accepted: by the earlier vote
  module _ (z : frames ≡ 0) (ok : size ≡ 0) where
    whole : size_refusal row (length line) (length read) (length buffer) ≡ 0
    whole = ap (λ (k : ℕ). size_refusal row (length line) k (length buffer)) read_length ∙ ok

    bad-vote : bad_earlier row earlier ≡ true → Split level earlier line notes buffer
    bad-vote bad = refused-second z 5 (lit≤ tt) (rw (e, ok, bad)) (fault-of-earlier row earlier (length line) read (length buffer) whole bad)

    both-accepted : bad_earlier row earlier ≡ false → Split level earlier line notes buffer
    both-accepted good =
        let told : (together level earlier line notes buffer).refusal ≡ 0 = rw (e, ok, good) in
        let sizes : Accepted row (length line) (length read) (length buffer) = rw read_length (accepted row (length line) F (length buffer) ok) in
        let fits : NotesFit row read = λ f hf. note-fits row (digits_of line) (digits-binary line) f (shared-row level row e) F (omega (arith, read_length)) in
        let found = fit-faultless row earlier (length line) read (length buffer) sizes good fits in
        record {
          same = λ _. rw (e, z, ok, good, found, read_length);
          second_refused = λ late. absurd (some (rw told at late));
          written = λ late. absurd (some (rw told at late));
        }
      where
        some : ◌≤◌ 4 0 → ⊥
        some e = omega arith

  on_row : Split level earlier line notes buffer
  on_row =
      elim (ℕ_discrete frames 0) [
        | yes z ↦ ways z (bad_buffer row (length line) (length buffer)) refl (bad_earlier row earlier) refl
        | no n ↦ refused-first n
      ]
    where
      ways : frames ≡ 0 → (t : Bool) → bad_buffer row (length line) (length buffer) ≡ t → (b : Bool) → bad_earlier row earlier ≡ b → Split level earlier line notes buffer
      ways z true t b v = short-of-room z (size-by z true t)
      ways z false t true v = bad-vote z (size-by z false t) v
      ways z false t false v = both-accepted z (size-by z false t) v

-- on every input
pub split : (level earlier : ℕ) (line notes buffer : List ℕ) → Split level earlier line notes buffer
split level earlier line notes buffer = go (level_of level) refl
  where
    go : (l : Option Row) → level_of level ≡ l → Split level earlier line notes buffer
    go (Some row) e = on_row level earlier line notes buffer row e
    go None e =
        let told : (together level earlier line notes buffer).refusal ≡ 1 = rw e in
        record {
          same = λ _. rw e;
          second_refused = λ late. absurd (some (rw told at late));
          written = λ late. absurd (some (rw told at late));
        }
      where
        some : ◌≤◌ 4 1 → ⊥
        some e = omega arith

-- where only the buffer or the earlier vote is at fault, the notes that are left are those that were read
pub by-then-written : (level earlier : ℕ) (line notes buffer : List ℕ) → 4 ≤ (together level earlier line notes buffer).refusal → ByThenWritten level earlier line notes buffer
by-then-written level earlier line notes buffer late =
    let s = split level earlier line notes buffer in
    record {
      read = ap (λ (o : Outcome). o.notes) (s.second_refused late) ∙ left (level_of level) refl (s.written late);
      kept = ap (λ (o : Outcome). o.buffer) (s.second_refused late);
    }
  where
    number : (n : ℕ) (a b : Noted) → a.refusal ≡ 0 → b.refusal ≡ n → (cond (eqb n 0) a b).refusal ≡ 0 → eqb n 0 ≡ true
    number n a b x y e = go (eqb n 0) refl e
      where
        go : (t : Bool) → eqb n 0 ≡ t → (cond t a b).refusal ≡ 0 → t ≡ true
        go true w e = refl
        go false w e = absurd (eqb-false n 0 w (sym y ∙ e))

    left : (l : Option Row) → level_of level ≡ l → (noted level line (length notes)).refusal ≡ 0
        → notes_after level line notes ≡ on_level (level_of level) (λ (row : Row). notes_of row (digits_of line) (length notes)) notes
    left (Some row) e ok = rw (e, number (frames_refusal row (length line) (length notes)) (noted_from row (digits_of line) (length notes)) (refused_with (frames_refusal row (length line) (length notes))) refl refl (rw e at ok))
    left None e ok = rw e
