-- Demand 3 and the round trip as theorems on the two calls. What is assumed of a send is that it was accepted, and nothing else: level,
-- lengths, room and notes follow from that, and of two sends whose damaged lines are equal, that they have one frame count. A reading that is
-- lent enough for the send's frames is accepted.
use Rattle.std.specs.Prelude.{Option, Some, None}
use mathlib.Core.Path.{◌≡◌, refl, sym, ◌∙◌, ap}
use mathlib.Core.Logic.{◌≢◌}
use mathlib.Core.List.{List}
use Prim.Native.Nat.{ℕ, ◌*◌, ◌/◌, ◌%◌, ◌<◌}
use native.Mathlib.Omega.{arith}
use native.Mathlib.Nat.{eq_of_mul-eq-mul_right}
use lib.Dec.{lit<}
use lib.ListN.{length, get_or}
use borrow.Author.Tests.{ne_eqb}
use Rattle.digits.specs.Digits.{digits_of}
use Rattle.digits.proofs.Laws.{digits-length, digits-binary, tab-length}
use Rattle.table.specs.declared.Row.{Row}
use Rattle.table.specs.Table.{level_of}
use Rattle.levels.specs.Table.{Shared}
use Rattle.levels.specs.Sizes.{on_level}
use Rattle.levels.specs.Order.{decisions, actions, count_of, counts_of}
use Rattle.levels.proofs.Positions.{in_frame}
use Rattle.levels.specs.Line.{line_digit}
use Rattle.reading.specs.Notes.{notes_of, alignment_to, dissent_to, dissents_of}
use Rattle.promises.specs.Damage.{Damage, controls_changed, line_digits, SameBut}
use Rattle.promises.specs.Carried.{decision_read, digits_read, count_read, Returned}
use Rattle.promises.specs.Calls.{Lent, SendAccepted, sent_line, sent_counts, sent_digits, outcome, ReadAccepted, read_notes, read_counts, read_digits, read_dissent}
use Rattle.promises.specs.Calls.{LentFor, LentAt, DamageAt, SameButAt, SendsSame, SendReturned, DissentAt, SendBack, ReadsSame}
use Rattle.promises.specs.Together.{Outcome, read_whole}
use Rattle.promises.specs.Plain.{SameOutside}
use Rattle.promises.proofs.Recovered.{dissent-changed, damage-recovered}
use Rattle.promises.proofs.Others.{others-untouched}
use Rattle.promises.proofs.RoundTrip.{round_trip}
use Rattle.promises.proofs.Accepted.{send-level, read-level, shared, count_at, dissent-at, tributary, send-sizes, send-vote, send-places, send-sound, send_line}
use Rattle.promises.proofs.Accepted.{send-counts, send-digits, read-accepted, accepted-vote, read-sizes, read-places, read_answer, read-notes, read-frames, read-digits}

-- the four counts are the same where each is
counts_same : (row : Row) (earlier : ℕ) (a b : List ℕ) (F : ℕ) → ((j : ℕ) → j < 4 → count_of row (actions row earlier a j) F ≡ count_of row (actions row earlier b j) F)
    → counts_of row earlier a F ≡ counts_of row earlier b F
counts_same row earlier a b F h = rw (h 0 (lit< tt), h 1 (lit< tt), h 2 (lit< tt), h 3 (lit< tt))

-- lines of as many digits have one frame count
same-frames : (row : Row) → Shared row → (F G : ℕ) → F * row.digits ≡ G * row.digits → F ≡ G
same-frames row sh = eq_of_mul-eq-mul_right row.digits (omega (arith, in_frame row sh 0 0 (omega (arith, sh.later_set)) (omega (arith, sh.room))))

module _ (level earlier : ℕ) (row : Row) (e : level_of level ≡ Some row) where
  abbrev sh : Shared row
  sh = shared level row e

  abbrev given : (c : Lent) → SendAccepted level earlier c → ℕ → List ℕ
  given c ok = tributary level earlier row e c ok

  -- an accepted send, and what is read from a line of F frames with the digits ds
  record AsRead (c : Lent) (F : ℕ) (ds : List ℕ) : Type 0 where
    decided : (j f : ℕ) → j < 4 → f < F → decisions c.notes j f ≡ decision_read row F ds j f
    counted : sent_counts level earlier c ≡ counts_of row earlier (notes_of row ds F) F
    digits : (j : ℕ) → j < 4 → sent_digits level earlier c j ≡ digits_read row earlier F ds j

  as_read : (c : Lent) (ok : SendAccepted level earlier c) (ds : List ℕ) → Returned row earlier (length c.notes) c.notes (given c ok) ds → AsRead c (length c.notes) ds
  as_read c ok ds back =
      record {
        decided = λ j f hj hf. sym (back.decided j f hj hf);
        counted = send-counts level earlier row e c ok ∙ counts_same row earlier c.notes (notes_of row ds (length c.notes)) (length c.notes) (λ j hj. sym (back.counted j hj));
        digits = λ j hj. send-digits level earlier row e c ok j hj ∙ sym (back.digits j hj);
      }

  damage-on : (notes sent received : List ℕ) → DamageAt level earlier notes sent received → Damage row earlier notes (length notes) (digits_of sent) (digits_of received)
  damage-on notes sent received d = rw e at d

  pub on-damage : (notes sent received : List ℕ) → Damage row earlier notes (length notes) (digits_of sent) (digits_of received) → DamageAt level earlier notes sent received
  on-damage notes sent received d = rw e d

  damaged : (c : Lent) → SendAccepted level earlier c → (received : List ℕ) → DamageAt level earlier c.notes (sent_line level earlier c) received → AsRead c (length c.notes) (digits_of received)
  damaged c ok received d =
      as_read c ok (digits_of received)
      (damage-recovered row sh (length c.notes) earlier c.notes (given c ok) (digits_of received)
      (rw (send_line level earlier row e c ok) at (damage-on c.notes (sent_line level earlier c) received d))
      (send-sound level earlier row e c ok).room)

  sends-on : (a b : Lent) → SendAccepted level earlier a → SendAccepted level earlier b → (received other : List ℕ)
      → DamageAt level earlier a.notes (sent_line level earlier a) received → DamageAt level earlier b.notes (sent_line level earlier b) other → received ≡ other → SendsSame level earlier a b
  sends-on a b ok-a ok-b received other da db equal =
      let one = damaged a ok-a received da in
      let size-a = (damage-on a.notes (sent_line level earlier a) received da).size in
      let size-b = (damage-on b.notes (sent_line level earlier b) other db).size in
      let F = same-frames row sh (length b.notes) (length a.notes) (sym size-b ∙ ap (λ (l : List ℕ). length (digits_of l)) (sym equal) ∙ size-a) in
      let two : AsRead b (length a.notes) (digits_of received) = rw (← F, equal) (damaged b ok-b other db) in
      record {
        frames = sym F;
        decided = λ j f hj hf. one.decided j f hj hf ∙ sym (two.decided j f hj hf);
        counted = one.counted ∙ sym two.counted;
        digits = λ j hj. one.digits j hj ∙ sym (two.digits j hj);
      }

  -- an accepted reading of a line of F frames
  record Reads (c : Lent) (F : ℕ) (ds : List ℕ) : Type 0 where
    accepted : ReadAccepted level earlier c
    noted : read_notes level earlier c ≡ notes_of row ds F
    frames : length (read_notes level earlier c) ≡ F
    counted : read_counts level earlier c ≡ counts_of row earlier (notes_of row ds F) F
    aligned : (outcome level earlier c).alignment ≡ alignment_to row ds F
    dissenting : read_dissent level earlier c ≡ dissents_of row ds F
    digits : (j : ℕ) → j < 4 → read_digits level earlier c j ≡ digits_read row earlier F ds j

  reads : (c : Lent) → ReadAccepted level earlier c → (F : ℕ) → length c.notes ≡ F → Reads c F (digits_of c.line)
  reads c ok F same =
      let ds = digits_of c.line in
      let whole = read_answer level earlier row e c ok ∙ ap (λ (n : ℕ). read_whole row earlier c.line n (length c.buffer / 4)) same in
      record {
        accepted = ok;
        noted = read-notes level earlier row e c ok ∙ ap (λ (n : ℕ). notes_of row ds n) same;
        frames = read-frames level earlier row e c ok ∙ same;
        counted = ap (λ (r : Outcome). r.counts) whole;
        aligned = ap (λ (r : Outcome). r.alignment) whole;
        dissenting = ap (λ (r : Outcome). r.dissent) whole;
        digits = λ j hj. read-digits level earlier row e c ok j hj ∙ ap (λ (n : ℕ). digits_read row earlier n ds j) same;
      }

  dissent-of : (c : Lent) (F : ℕ) (ds : List ℕ) → Reads c F ds → (j : ℕ) → j < 4 → get_or (read_dissent level earlier c) j 0 ≡ dissent_to row ds j F
  dissent-of c F ds got j hj = ap (λ (l : List ℕ). get_or l j 0) got.dissenting ∙ dissent-at row ds F j hj

  -- a reading of a line of the send's frames
  reading : (send read : Lent) → SendAccepted level earlier send → LentFor row.room send read → length (digits_of read.line) ≡ length send.notes * row.digits
      → Reads read (length send.notes) (digits_of read.line)
  reading send read ok lent size =
      let same : length read.line ≡ length send.line = omega (arith, digits-length read.line, send-places level earlier row e send ok, size) in
      reads read (read-accepted level earlier row e send read (send-sizes level earlier row e send ok) (send-vote level earlier row e send ok) same lent) (length send.notes) lent.noted

  returns : (send read : Lent) (ds : List ℕ) → AsRead send (length send.notes) ds → Reads read (length send.notes) ds → SendReturned level earlier send read
  returns send read ds sent got =
      record {
        accepted = got.accepted;
        frames = got.frames;
        decided = λ j f hj hf. ap (λ (notes : List ℕ). decisions notes j f) got.noted ∙ sym (sent.decided j f hj hf);
        counted = got.counted ∙ sym sent.counted;
        digits = λ j hj. got.digits j hj ∙ sym (sent.digits j hj);
      }

  returned-on : (send read : Lent) → SendAccepted level earlier send → LentFor row.room send read → DamageAt level earlier send.notes (sent_line level earlier send) read.line
      → SendReturned level earlier send read
  returned-on send read ok lent d =
      returns send read (digits_of read.line) (damaged send ok read.line d)
      (reading send read ok lent (damage-on send.notes (sent_line level earlier send) read.line d).size)

  on-dissent : (dissent : List ℕ) (F : ℕ) (sent received : List ℕ) → ((j : ℕ) → j < 4 → get_or dissent j 0 ≡ controls_changed row F (digits_of sent) (digits_of received) j)
      → DissentAt level dissent F sent received
  on-dissent dissent F sent received d = rw e d

  dissent-on : (send read : Lent) → SendAccepted level earlier send → LentFor row.room send read → DamageAt level earlier send.notes (sent_line level earlier send) read.line
      → DissentAt level (read_dissent level earlier read) (length send.notes) (sent_line level earlier send) read.line
  dissent-on send read ok lent d =
      let F = length send.notes in
      let ds = digits_of read.line in
      let line = send_line level earlier row e send ok in
      let damage = damage-on send.notes (sent_line level earlier send) read.line d in
      on-dissent (read_dissent level earlier read) F (sent_line level earlier send) read.line
      (λ j hj.
      dissent-of read F ds (reading send read ok lent damage.size) j hj
      ∙ rw line (dissent-changed row sh F earlier send.notes (given send ok) ds (rw line at damage) j hj))

  back_on : (send read : Lent) → SendAccepted level earlier send → LentFor row.room send read → read.line ≡ sent_line level earlier send → SendBack level earlier send read
  back_on send read ok lent same =
      let F = length send.notes in
      let line = line_digits row earlier send.notes (given send ok) F in
      let trip = round_trip row sh F earlier send.notes (given send ok) (send-sound level earlier row e send ok) in
      let ds : digits_of read.line ≡ line = ap digits_of same ∙ send_line level earlier row e send ok in
      let got : Reads read F line = rw (← ds) (reading send read ok lent (ap length ds ∙ tab-length (F * row.digits) 0 (line_digit row earlier send.notes (given send ok)))) in
      record {
        noted = got.noted ∙ trip.noted;
        returned = returns send read line (as_read send ok line trip.returned) got;
        aligned = got.aligned ∙ trip.aligned;
        unanimous = got.dissenting ∙ rw (trip.unanimous 0 (lit< tt), trip.unanimous 1 (lit< tt), trip.unanimous 2 (lit< tt), trip.unanimous 3 (lit< tt));
      }

  others-on : (j k : ℕ) (a b : Lent) → ReadAccepted level earlier a → LentFor row.room a b → length a.line ≡ length b.line → SameOutside j a.line b.line
      → k < 4 → k ≢ j → ReadsSame level earlier k a b
  others-on j k a b ok lent len same hk other =
      let F = length a.notes in
      let da = digits_of a.line in
      let db = digits_of b.line in
      let places = digits-length a.line ∙ read-places level earlier row e a ok in
      let out = others-untouched row sh earlier F j da db (digits-binary a.line) (digits-binary b.line) (λ p h. same p (omega (arith, places))) k hk other in
      let one = reads a ok F refl in
      let two = reads b (read-accepted level earlier row e a b (read-sizes level earlier row e a ok) (accepted-vote level earlier row e a ok) (sym len) lent) F lent.noted in
      let counts : (c : Lent) (ds : List ℕ) → Reads c F ds → get_or (read_counts level earlier c) k 0 ≡ count_read row earlier F ds k =
      λ c ds got. ap (λ (l : List ℕ). get_or l k 0) got.counted ∙ count_at row earlier (notes_of row ds F) F k hk in
      record {
        accepted = two.accepted;
        frames = one.frames ∙ sym two.frames;
        decided = λ f hf. rw (one.noted, two.noted) (out.decided f hf);
        counted = counts a da one ∙ out.counted ∙ sym (counts b db two);
        digits = one.digits k hk ∙ out.digits ∙ sym (two.digits k hk);
        dissenting = dissent-of a F da one k hk ∙ out.dissenting ∙ sym (dissent-of b F db two k hk);
      }

-- two accepted sends, whose damaged lines are equal, carried the same: one level and one frame count, which equal lines have
pub sends-same : (level earlier : ℕ) (a b : Lent) → SendAccepted level earlier a → SendAccepted level earlier b → (received other : List ℕ)
    → DamageAt level earlier a.notes (sent_line level earlier a) received → DamageAt level earlier b.notes (sent_line level earlier b) other → received ≡ other → SendsSame level earlier a b
sends-same level earlier a b ok-a ok-b = let on = send-level level earlier a ok-a in sends-on level earlier on.0 on.1 a b ok-a ok-b

-- and a reading of the damaged line, lent enough, returns them
pub send-returned : (level earlier : ℕ) (send read : Lent) → SendAccepted level earlier send → LentAt level send read → DamageAt level earlier send.notes (sent_line level earlier send) read.line
    → SendReturned level earlier send read
send-returned level earlier send read ok lent = let on = send-level level earlier send ok in returned-on level earlier on.0 on.1 send read ok (rw on.1 at lent)

-- and says how many digits of each control group were changed
pub send-dissent : (level earlier : ℕ) (send read : Lent) → SendAccepted level earlier send → LentAt level send read → DamageAt level earlier send.notes (sent_line level earlier send) read.line
    → DissentAt level (read_dissent level earlier read) (length send.notes) (sent_line level earlier send) read.line
send-dissent level earlier send read ok lent = let on = send-level level earlier send ok in dissent-on level earlier on.0 on.1 send read ok (rw on.1 at lent)

-- the round trip, for an accepted send and a reading of its line
pub send-back : (level earlier : ℕ) (send read : Lent) → SendAccepted level earlier send → LentAt level send read → read.line ≡ sent_line level earlier send → SendBack level earlier send read
send-back level earlier send read ok lent = let on = send-level level earlier send ok in back_on level earlier on.0 on.1 send read ok (rw on.1 at lent)

-- whatever is changed in the places of any line that have the remainder j, every other tributary k comes out as before
pub others-outside : (level earlier j k : ℕ) (a b : Lent) → ReadAccepted level earlier a → LentAt level a b → length a.line ≡ length b.line
    → SameOutside j a.line b.line → k < 4 → k ≢ j → ReadsSame level earlier k a b
others-outside level earlier j k a b ok lent = let on = read-level level earlier a ok in others-on level earlier on.0 on.1 j k a b ok (rw on.1 at lent)

-- lines that differ in tributary j's own places only have the same digit at every place with another remainder
pub own-outside : (level j : ℕ) (line other : List ℕ) → SameButAt level j line other → SameOutside j line other
own-outside level j line other same = go (level_of level) same
  where
    go : (l : Option Row) → on_level l (λ (row : Row). SameBut row j (digits_of line) (digits_of other)) ⊥ → SameOutside j line other
    go (Some row) same p h n = same p h (rw (ne_eqb (p % 4) j n))
    go None same p h n = absurd same

-- so, whatever is changed in tributary j's own places
pub others-come-out : (level earlier j k : ℕ) (a b : Lent) → ReadAccepted level earlier a → LentAt level a b → length a.line ≡ length b.line
    → SameButAt level j a.line b.line → k < 4 → k ≢ j → ReadsSame level earlier k a b
others-come-out level earlier j k a b ok lent len same = others-outside level earlier j k a b ok lent len (own-outside level j a.line b.line same)
