-- What an accepted call is over its level's row: the line, the counts, the notes and the quarters as the theorems speak of them.
use Rattle.std.specs.Prelude.{Option, Some, None}
use mathlib.Core.Path.{◌≡◌, refl, sym, ◌∙◌, ap}
use mathlib.Core.Bool.{Bool, cond, true, false}
use mathlib.Core.List.{List}
use Prim.Native.Nat.{ℕ, zero, ◌*◌, ◌/◌, ◌≤◌, ◌<◌}
use native.Mathlib.Omega.{arith}
use native.Mathlib.Decide.{dec_lt, ℕ_discrete}
use native.Mathlib.Nat.{mul_left_comm}
use lib.Dec.{eqb, lit<}
use lib.ListN.{length, get_or, take, length-map}
use borrow.Author.Tests.{eq-eqb, ne_eqb}
use Rattle.digits.specs.Digits.{digits_of, Binary}
use Rattle.digits.proofs.Laws.{digits-length, digits-binary, digits-of-bytes, tab-length}
use Rattle.digits.proofs.Lists.{of_four}
use Rattle.levels.proofs.Buffers.{quarter-length}
use Rattle.table.specs.declared.Row.{Row}
use Rattle.table.specs.Table.{level_of}
use Rattle.levels.specs.Table.{Shared}
use Rattle.levels.specs.Sizes.{on_level, frames_of, size_refusal, quarter_of, Accepted}
use Rattle.levels.specs.Order.{actions, count_of, counts_of, places_of}
use Rattle.levels.proofs.Rows.{shared-row}
use Rattle.levels.proofs.Counts.{line-count}
use Rattle.levels.proofs.Columns.{columns, frame-start}
use Rattle.levels.proofs.Inverse.{places-length}
use Rattle.levels.proofs.Judged.{accepted, fits-quarter, no-size-refused}
use Rattle.levels.specs.Faults.{Counted}
use Rattle.levels.specs.Faults.{Fault}
use Rattle.levels.specs.Faults.{fault, bad_earlier, fault_of, send_fault_of, refused_with, counted, answer_on, answered, send_answer_on, send_answered}
use Rattle.levels.proofs.Refusals.{EarlierFits, NotesFit, NationalsSet, faultless, fit-faultless, send-faultless, set-faultless}
use Rattle.levels.specs.Line.{line_digit, line_of}
use Rattle.reading.specs.Notes.{note_of, notes_of, dissent_to, dissents_of}
use Rattle.extraction.specs.Quarters.{taken_to, quarters_from}
use Rattle.extraction.proofs.Handed.{quarter-first}
use Rattle.promises.specs.Damage.{line_digits}
use Rattle.promises.specs.Carried.{Sound, digits_sent, digits_read}
use Rattle.promises.specs.Calls.{Lent, SendAccepted, sent_line, sent_counts, sent_digits, outcome, ReadAccepted, read_notes, read_digits, LentFor}
use Rattle.promises.specs.Extraction.{ExtractAccepted, extract_counts}
use Rattle.promises.specs.Together.{Outcome, refused_whole, read_whole, together_on, together}
use Rattle.promises.proofs.Together.{split}
use Rattle.promises.proofs.RoundTrip.{line-binary}

-- an answer that the call on no level does not give was given on a level's row
pub some_level : {A : Type 0} (P : A → Type 0) (level : Option Row) (go : Row → A) (none : A) → (P none → ⊥) → P (on_level level go none) → (row : Row) × (level ≡ Some row)
some_level P (Some row) go none n h = (row, refl)
some_level P None go none n h = absurd (n h)

-- and so was every answer of a call that did not refuse
on-level : (level : ℕ) (go : Row → Counted) → (on_level (level_of level) go (refused_with (fault 1 0))).refusal ≡ 0 → (row : Row) × (level_of level ≡ Some row)
on-level level go ok = some_level (λ (r : Counted). r.refusal ≡ 0) (level_of level) go (refused_with (fault 1 0)) (λ e. omega arith) ok

pub call-level : (level earlier : ℕ) (c : Lent) → ExtractAccepted level earlier c → (row : Row) × (level_of level ≡ Some row)
call-level level earlier c ok =
    on-level level (λ (row : Row). answer_on row earlier (length c.line) c.notes (length c.buffer)) ok

pub send-level : (level earlier : ℕ) (c : Lent) → SendAccepted level earlier c → (row : Row) × (level_of level ≡ Some row)
send-level level earlier c ok =
    on-level level (λ (row : Row). send_answer_on row earlier (length c.line) c.notes (length c.buffer)) ok

-- a reading that was accepted is that of the one call
pub as-together : (level earlier : ℕ) (c : Lent) → ReadAccepted level earlier c → outcome level earlier c ≡ together level earlier c.line c.notes c.buffer
as-together level earlier c ok =
    elim (dec_lt (together level earlier c.line c.notes c.buffer).refusal 4) [
      | yes low ↦ (split level earlier c.line c.notes c.buffer).same low
      | no high ↦
          let late : 4 ≤ (together level earlier c.line c.notes c.buffer).refusal = omega arith in
          let told = sym (ap (λ (o : Outcome). o.refusal) ((split level earlier c.line c.notes c.buffer).second_refused late)) ∙ ok in
          absurd (some (rw told at late))
    ]
  where
    some : ◌≤◌ 4 0 → ⊥
    some e = omega arith

accepted-together : (level earlier : ℕ) (c : Lent) → ReadAccepted level earlier c → (together level earlier c.line c.notes c.buffer).refusal ≡ 0
accepted-together level earlier c ok = sym (ap (λ (o : Outcome). o.refusal) (as-together level earlier c ok)) ∙ ok

pub read-level : (level earlier : ℕ) (c : Lent) → ReadAccepted level earlier c → (row : Row) × (level_of level ≡ Some row)
read-level level earlier c ok =
    some_level (λ (o : Outcome). o.refusal ≡ 0) (level_of level) (λ (row : Row). together_on row earlier c.line c.notes c.buffer) (refused_whole 1 c.notes c.buffer) (λ e. omega arith)
    (accepted-together level earlier c ok)

-- an answer that is given by a refusal number is accepted where that number is 0
pub zero-refusal : {A : Type 0} (refusal : A → ℕ) (n : ℕ) (sent refused : A) → refusal refused ≡ n → refusal (cond (eqb n 0) sent refused) ≡ 0 → n ≡ 0
zero-refusal refusal n sent refused r e =
    elim (ℕ_discrete n 0) [
      | yes z ↦ z
      | no z ↦ sym r ∙ rw (ne_eqb n 0 z) at e
    ]

-- the count of a tributary is its own of the four
pub count_at : (row : Row) (earlier : ℕ) (notes : List ℕ) (F j : ℕ) → j < 4 → get_or (counts_of row earlier notes F) j 0 ≡ count_of row (actions row earlier notes j) F
count_at row earlier notes F = of_four (λ (j : ℕ). get_or (counts_of row earlier notes F) j 0 ≡ count_of row (actions row earlier notes j) F) refl refl refl refl

pub dissent-at : (row : Row) (ds : List ℕ) (F j : ℕ) → j < 4 → get_or (dissents_of row ds F) j 0 ≡ dissent_to row ds j F
dissent-at row ds F = of_four (λ (j : ℕ). get_or (dissents_of row ds F) j 0 ≡ dissent_to row ds j F) refl refl refl refl

-- a tributary has as many digits as are counted
pub taken-length : (row : Row) → Shared row → (earlier : ℕ) (notes ds : List ℕ) (F j : ℕ) → j < 4
    → length (taken_to row earlier notes ds j (F * columns row)) ≡ count_of row (actions row earlier notes j) F
unfolding taken_to count_of
taken-length row sh earlier notes ds F j hj =
    length-map (places_of row (actions row earlier notes j) j (F * columns row)) (λ (p : ℕ). get_or ds p 0)
    ∙ places-length row (actions row earlier notes j) j (F * columns row)
    ∙ omega (arith, line-count row sh j hj (actions row earlier notes j) F)

-- so a quarter with room has a tributary's digits first, as many as are counted
module _ (row : Row) (sh : Shared row) (earlier : ℕ) (notes line : List ℕ) (F q j : ℕ) (hj : j < 4) (places : 8 * length line ≡ F * row.digits) (room : F * row.room ≤ 8 * q) where
  abbrev count : ℕ
  count = count_of row (actions row earlier notes j) F

  abbrev taken : List ℕ
  taken = taken_to row earlier notes (digits_of line) j (F * columns row)

  whole : taken_to row earlier notes (digits_of line) j (2 * length line) ≡ taken
  whole =
      let all : 2 * length line ≡ F * columns row = omega (arith, places, frame-start row sh j hj F) in
      rw all

  pub quarter-taken : take count (digits_of (quarter_of (quarters_from row earlier notes line q) j)) ≡ taken
  quarter-taken =
      let bytes : length line ≡ F * row.bytes = omega (arith, places, ap (λ (n : ℕ). F * n) sh.packed, mul_left_comm F 8 row.bytes) in
      quarter-first row sh earlier notes line F q j hj bytes room ∙ whole

-- a line of accepted length is its frames, in bytes and in digits
line-bytes : (row : Row) (line notes buffer : ℕ) → Accepted row line notes buffer → line ≡ notes * row.bytes
line-bytes row line notes buffer sizes = sizes.framed.frames ∙ ap (λ (F : ℕ). F * row.bytes) (sym sizes.framed.noted)

line-places : (row : Row) → Shared row → (line notes buffer : ℕ) → Accepted row line notes buffer → 8 * line ≡ notes * row.digits
line-places row sh line notes buffer sizes =
    ap (λ (n : ℕ). 8 * n) (line-bytes row line notes buffer sizes) ∙ mul_left_comm 8 notes row.bytes ∙ ap (λ (n : ℕ). notes * n) (sym sh.packed)

pub line-digits : (row : Row) (earlier : ℕ) (notes : List ℕ) (tributary : ℕ → List ℕ) → ((j : ℕ) → j < 4 → Binary (tributary j)) → (bytes F : ℕ) → 8 * bytes ≡ F * row.digits
    → digits_of (line_of row earlier notes tributary bytes) ≡ line_digits row earlier notes tributary F
line-digits row earlier notes tributary bin bytes F places =
    rw places
    (digits-of-bytes bytes (line_digits row earlier notes tributary F) (line-binary row earlier notes tributary bin F)
    (tab-length (F * row.digits) 0 (line_digit row earlier notes tributary) ∙ sym places))

module _ (level : ℕ) (row : Row) (e : level_of level ≡ Some row) where
  pub shared : Shared row
  shared = shared-row level row e

  -- a reading of a line as long as that of an accepted call, lent enough for as many frames, is accepted, whatever it is lent
  pub lent-accepted : (one other : Lent) → Accepted row (length one.line) (length one.notes) (length one.buffer)
      → length other.line ≡ length one.line → LentFor row.room one other → Accepted row (length other.line) (length other.notes) (length other.buffer)
  lent-accepted one other sizes same lent =
      let F : frames_of row (length other.line) ≡ length one.notes = ap (λ (n : ℕ). frames_of row n) same ∙ sym sizes.framed.noted in
      record {
        framed = record { frames = rw same sizes.framed.frames; few = rw same sizes.framed.few; noted = lent.noted ∙ sym F };
        quarters = omega (arith, lent.quarters);
        room = rw F lent.room;
      }

module _ (level earlier : ℕ) (row : Row) (e : level_of level ≡ Some row) where
  abbrev sh : Shared row
  sh = shared level row e

  pub read-accepted : (one other : Lent) → Accepted row (length one.line) (length one.notes) (length one.buffer) → EarlierFits row earlier
      → length other.line ≡ length one.line → LentFor row.room one other → ReadAccepted level earlier other
  read-accepted one other sizes fits same lent =
      let whole = no-size-refused row (length other.line) (length other.notes) (length other.buffer) (lent-accepted level row e one other sizes same lent) in
      let zero : (together level earlier other.line other.notes other.buffer).refusal ≡ 0 = rw (e, whole, fits) in
      ap (λ (o : Outcome). o.refusal) ((split level earlier other.line other.notes other.buffer).same (rw zero (lit< tt))) ∙ zero

  -- a call of accepted lengths, with an earlier vote and notes that fit the level, is accepted; multiplexing, where the national bits are set too
  module _ (c : Lent) (size : size_refusal row (length c.line) (length c.notes) (length c.buffer) ≡ 0) (vote : EarlierFits row earlier) (fit : NotesFit row c.notes) where
    none : fault_of row earlier (length c.line) c.notes (length c.buffer) ≡ fault 0 0
    none = fit-faultless row earlier (length c.line) c.notes (length c.buffer) (accepted row (length c.line) (length c.notes) (length c.buffer) size) vote fit

    pub call-accepted : ExtractAccepted level earlier c
    call-accepted = rw (e, none)

    pub send-accepted : NationalsSet row c.notes → SendAccepted level earlier c
    send-accepted set = rw (e, set-faultless row earlier (length c.line) c.notes (length c.buffer) none set)

  -- an accepted call that goes by notes: of extraction, and of multiplexing, whose calls extraction accepts too
  module _ (c : Lent) (ok : ExtractAccepted level earlier c) where
    abbrev N : ℕ
    N = length c.notes

    abbrev pub found : Fault
    found = fault_of row earlier (length c.line) c.notes (length c.buffer)

    pub unrefused : found.refusal ≡ 0
    unrefused = zero-refusal (λ (r : Counted). r.refusal) found.refusal (counted row earlier c.notes) (refused_with found) refl (rw e at ok)

    pub call-sizes : Accepted row (length c.line) N (length c.buffer)
    call-sizes = (faultless row earlier (length c.line) c.notes (length c.buffer) unrefused).0

    pub call-places : 8 * length c.line ≡ N * row.digits
    call-places = line-places row sh (length c.line) N (length c.buffer) call-sizes

    call-answer : answered level earlier (length c.line) c.notes (length c.buffer) ≡ counted row earlier c.notes
    call-answer = rw (e, eq-eqb found.refusal 0 unrefused)

    pub call-counts : extract_counts level earlier c ≡ counts_of row earlier c.notes N
    call-counts = ap (λ (r : Counted). r.counts) call-answer

    pub call-count : (j : ℕ) → j < 4 → get_or (extract_counts level earlier c) j 0 ≡ count_of row (actions row earlier c.notes j) N
    call-count j hj = ap (λ (counts : List ℕ). get_or counts j 0) call-counts ∙ count_at row earlier c.notes N j hj

  -- an accepted send
  module _ (c : Lent) (ok : SendAccepted level earlier c) where
    abbrev F : ℕ
    F = length c.notes

    abbrev pub tributary : ℕ → List ℕ
    tributary j = digits_of (quarter_of c.buffer j)

    abbrev found-sending : Fault
    found-sending = send_fault_of row earlier (length c.line) c.notes (length c.buffer)

    unrefused-sending : found-sending.refusal ≡ 0
    unrefused-sending = zero-refusal (λ (r : Counted). r.refusal) found-sending.refusal (counted row earlier c.notes) (refused_with found-sending) refl (rw e at ok)

    faultless-sending : ((fault_of row earlier (length c.line) c.notes (length c.buffer)).refusal ≡ 0) × NationalsSet row c.notes
    faultless-sending = send-faultless row earlier (length c.line) c.notes (length c.buffer) unrefused-sending

    pub send-sizes : Accepted row (length c.line) F (length c.buffer)
    send-sizes = (faultless row earlier (length c.line) c.notes (length c.buffer) faultless-sending.0).0

    pub send-vote : EarlierFits row earlier
    send-vote = (faultless row earlier (length c.line) c.notes (length c.buffer) faultless-sending.0).1.0

    pub send-whole : length c.line ≡ F * row.bytes
    send-whole = line-bytes row (length c.line) F (length c.buffer) send-sizes

    pub send-places : 8 * length c.line ≡ F * row.digits
    send-places = line-places row sh (length c.line) F (length c.buffer) send-sizes

    pub send-sound : Sound row F c.notes tributary
    send-sound =
        record {
          all_noted = refl;
          notes_fit = (faultless row earlier (length c.line) c.notes (length c.buffer) faultless-sending.0).1.1;
          nationals_set = faultless-sending.1;
          digits = λ j hj. digits-binary (quarter_of c.buffer j);
          room = λ j hj. rw (digits-length, quarter-length c.buffer j hj) (fits-quarter sh send-sizes).room;
        }

    pub send-bytes : sent_line level earlier c ≡ line_of row earlier c.notes tributary (length c.line)
    send-bytes = rw (e, eq-eqb found-sending.refusal 0 unrefused-sending)

    pub send_line : digits_of (sent_line level earlier c) ≡ line_digits row earlier c.notes tributary F
    send_line = ap digits_of send-bytes ∙ line-digits row earlier c.notes tributary send-sound.digits (length c.line) F send-places

    send_answer : send_answered level earlier (length c.line) c.notes (length c.buffer) ≡ counted row earlier c.notes
    send_answer = rw (e, eq-eqb found-sending.refusal 0 unrefused-sending)

    pub send-counts : sent_counts level earlier c ≡ counts_of row earlier c.notes F
    send-counts = ap (λ (r : Counted). r.counts) send_answer

    pub send-count : (j : ℕ) → j < 4 → get_or (sent_counts level earlier c) j 0 ≡ count_of row (actions row earlier c.notes j) F
    send-count j hj = ap (λ (counts : List ℕ). get_or counts j 0) send-counts ∙ count_at row earlier c.notes F j hj

    pub send-digits : (j : ℕ) → j < 4 → sent_digits level earlier c j ≡ digits_sent row earlier F c.notes tributary j
    send-digits j hj = ap (λ (n : ℕ). take n (tributary j)) (send-count j hj)

  -- an accepted reading
  module _ (c : Lent) (ok : ReadAccepted level earlier c) where
    abbrev frames : ℕ
    frames = length c.notes

    abbrev ds : List ℕ
    ds = digits_of c.line

    abbrev notes : List ℕ
    notes = notes_of row ds frames

    abbrev size : ℕ
    size = size_refusal row (length c.line) frames (length c.buffer)

    abbrev everything : Outcome
    everything = read_whole row earlier c.line frames (length c.buffer / 4)

    together-zero : (together_on row earlier c.line c.notes c.buffer).refusal ≡ 0
    together-zero = rw e at (accepted-together level earlier c ok)

    pub accepted-size : size ≡ 0
    accepted-size =
        zero-refusal (λ (o : Outcome). o.refusal) size (cond (bad_earlier row earlier) (refused_whole 5 c.notes c.buffer) everything) (refused_whole size c.notes c.buffer) refl together-zero

    pub accepted-vote : EarlierFits row earlier
    accepted-vote = go (bad_earlier row earlier) (rw (eq-eqb size 0 accepted-size) at together-zero)
      where
        five : ◌≡◌ {A = ℕ} 5 0 → ⊥
        five e = omega arith

        go : (t : Bool) → (cond t (refused_whole 5 c.notes c.buffer) everything).refusal ≡ 0 → t ≡ false
        go true z = absurd (five z)
        go false z = refl

    pub read-sizes : Accepted row (length c.line) frames (length c.buffer)
    read-sizes = accepted row (length c.line) frames (length c.buffer) accepted-size

    pub read-places : 8 * length c.line ≡ frames * row.digits
    read-places = line-places row sh (length c.line) frames (length c.buffer) read-sizes

    pub read_answer : outcome level earlier c ≡ read_whole row earlier c.line frames (length c.buffer / 4)
    read_answer = as-together level earlier c ok ∙ rw (e, eq-eqb size 0 accepted-size, accepted-vote)

    pub read-notes : read_notes level earlier c ≡ notes
    read-notes = ap (λ (o : Outcome). o.notes) read_answer

    pub read-frames : length (read_notes level earlier c) ≡ frames
    read-frames = rw read-notes (tab-length frames 0 (note_of row ds))

    pub read-buffer : (outcome level earlier c).buffer ≡ quarters_from row earlier notes c.line (length c.buffer / 4)
    read-buffer = ap (λ (o : Outcome). o.buffer) read_answer

    pub read-digits : (j : ℕ) → j < 4 → read_digits level earlier c j ≡ digits_read row earlier frames ds j
    read-digits j hj =
        rw (ap (λ (o : Outcome). o.counts) read_answer, count_at row earlier notes frames j hj, read-buffer)
        (quarter-taken row sh earlier notes c.line frames (length c.buffer / 4) j hj read-places (fits-quarter sh read-sizes).room)
