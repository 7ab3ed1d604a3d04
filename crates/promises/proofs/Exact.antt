-- The statements on the calls say no less than they may. Sends that carried the same leave lines of which the one comes from the other by
-- damage: what they carried is all that a line tells. And what demultiplexing is said to return is what it leaves in notes and buffer:
-- multiplexed again, where the national digits came as 1, it is accepted and carries the same, and an undamaged line comes again byte for byte.
use Rattle.std.specs.Prelude.{Some}
use mathlib.Core.Path.{◌≡◌, refl, sym, ◌∙◌, ap}
use mathlib.Core.Bool.{cond, true}
use mathlib.Core.List.{List}
use Prim.Native.Nat.{ℕ, ◌+◌, ◌*◌, ◌/◌, ◌%◌, ◌<◌}
use native.Mathlib.Omega.{arith}
use lib.Dec.{lit<}
use lib.ListN.{length, get_or, take, replicate}
use lib.Seq.{get_or-take, ext_get_or}
use Rattle.digits.specs.Digits.{digits_of, Binary}
use Rattle.digits.proofs.Laws.{digits-binary, bytes-length, tab-length}
use Rattle.digits.proofs.Lists.{differing-self}
use Rattle.table.specs.declared.Row.{Row}
use Rattle.table.specs.Table.{level_of}
use Rattle.levels.specs.declared.order.Action.{Action}
use Rattle.levels.specs.Table.{Shared}
use Rattle.levels.specs.Places.{kind_at, pos_of}
use Rattle.levels.specs.Sizes.{quarter_of}
use Rattle.levels.specs.Order.{decisions, actions, carries}
use Rattle.levels.proofs.Columns.{columns, frame-start}
use Rattle.levels.proofs.Refusals.{NationalsSet}
use Rattle.levels.specs.Line.{line_digit, line_of}
use Rattle.multiplex.proofs.Unread.{Agree, same_line}
use Rattle.reading.specs.Notes.{notes_of}
use Rattle.extraction.proofs.Handed.{quarters-length}
use Rattle.promises.specs.Damage.{kept, liberty_at, Damage, line_digits}
use Rattle.promises.specs.Calls.{Lent, SendAccepted, sent_line, sent_counts, sent_digits, ReadAccepted, read_notes, read_counts, read_digits, read_dissent}
use Rattle.promises.specs.Calls.{NationalsSetAt, sent_on, LentAt, DamageAt, SendsSame, SendReturned, SendBack, ReadsSame}
use Rattle.promises.specs.Together.{Outcome}
use Rattle.promises.proofs.Sent.{sent-group, sent-carried}
use Rattle.promises.proofs.Reading.{note-fits}
use Rattle.promises.proofs.Order.{carries_same, before_same, actions-same}
use Rattle.promises.proofs.Recovered.{kept-carries}
use Rattle.promises.proofs.RoundTrip.{line-binary}
use Rattle.promises.proofs.Accepted.{send-level, read-level, shared, line-digits, send-accepted, tributary, send-whole, send-places, send-sound}
use Rattle.promises.proofs.Accepted.{send-bytes, send_line, send-counts, send-count, accepted-size, accepted-vote, read-sizes, read_answer, read-notes, read-frames, read-buffer}
use Rattle.promises.proofs.Calls.{on-damage, send-returned, send-back}

-- two sends with the same decisions and of the same tributaries: only service digits differ
module _ (row : Row) (sh : Shared row) (F earlier : ℕ) (a b : List ℕ) (tributary : ℕ → List ℕ) (decided : (j f : ℕ) → j < 4 → f < F → decisions a j f ≡ decisions b j f) where
  abbrev acts-a : ℕ → ℕ → Action
  acts-a = actions row earlier a

  abbrev acts-b : ℕ → ℕ → Action
  acts-b = actions row earlier b

  same-acts : (j : ℕ) → j < 4 → (f : ℕ) → f < F → acts-a j f ≡ acts-b j f
  same-acts j hj = actions-same row earlier earlier a b j F refl (λ f hf. decided j f hj hf)

  same-carried : (j x : ℕ) → j < 4 → 4 * x + j < F * row.digits → liberty_at row earlier a (4 * x + j) ≡ kept
      → get_or (line_digits row earlier b tributary F) (4 * x + j) 0 ≡ get_or (line_digits row earlier a tributary F) (4 * x + j) 0
  unfolding carries
  same-carried j x hj h keep =
      let p = 4 * x + j in
      let within : x < F * columns row = omega (arith, frame-start row sh j hj F) in
      let w : p % 4 ≡ j = omega arith in
      let ca : carries row (acts-a j) p ≡ true = kept-carries (kind_at row p) (acts-a j (pos_of row p).frame) (rw w at keep) in
      let cb : carries row (acts-b j) p ≡ true = sym (carries_same row sh F j hj (acts-a j) (acts-b j) (same-acts j hj) x within) ∙ ca in
      let index = before_same row sh F j hj (acts-a j) (acts-b j) (same-acts j hj) x (omega arith) in
      sent-carried row sh earlier b tributary F j x hj h cb ∙ ap (λ (i : ℕ). get_or (tributary j) i 0) (sym index) ∙ sym (sent-carried row sh earlier a tributary F j x hj h ca)

  same-damage : ((j : ℕ) → j < 4 → Binary (tributary j)) → Damage row earlier a F (line_digits row earlier a tributary F) (line_digits row earlier b tributary F)
  same-damage bin =
      record {
        digits = line-binary row earlier b tributary bin F;
        size = tab-length (F * row.digits) 0 (line_digit row earlier b tributary);
        others_kept = λ p h keep. let e : p ≡ 4 * (p / 4) + p % 4 = omega arith in rw e (same-carried (p % 4) (p / 4) (omega arith) (omega arith) (rw e at keep));
        few_controls = λ f j hf hj.
            rw (sent-group row sh earlier a tributary F f j hf hj, sent-group row sh earlier b tributary F f j hf hj, decided j f hj hf)
            (omega (arith, differing-self (replicate row.control (cond (decisions b j f) 1 0))));
      }

-- two accepted sends that carried the same: the line of the second is made of its notes and of the first one's tributaries
module _ (level earlier : ℕ) (row : Row) (e : level_of level ≡ Some row) (a b : Lent) (ok-a : SendAccepted level earlier a)
    (ok-b : SendAccepted level earlier b) (same : SendsSame level earlier a b) where
  abbrev first : ℕ → List ℕ
  first = tributary level earlier row e a ok-a

  agree : Agree row earlier b.notes (tributary level earlier row e b ok-b) first
  agree j i hj hi =
      let nb = send-count level earlier row e b ok-b j hj in
      let na = ap (λ (counts : List ℕ). get_or counts j 0) same.counted ∙ nb in
      sym (get_or-take (get_or (sent_counts level earlier b) j 0) (tributary level earlier row e b ok-b j) i 0 (omega (arith, nb)))
      ∙ ap (λ (ds : List ℕ). get_or ds i 0) (sym (same.digits j hj))
      ∙ get_or-take (get_or (sent_counts level earlier a) j 0) (first j) i 0 (omega (arith, na))

  one_line : sent_line level earlier b ≡ line_of row earlier b.notes first (length b.line)
  one_line =
      send-bytes level earlier row e b ok-b
      ∙ same_line row (shared level row e) earlier b.notes (tributary level earlier row e b ok-b) first agree (length b.line) (send-whole level earlier row e b ok-b)

  meet-on : DamageAt level earlier a.notes (sent_line level earlier a) (sent_line level earlier b)
  meet-on =
      on-damage level earlier row e a.notes (sent_line level earlier a) (sent_line level earlier b)
      (rw (send_line level earlier row e a ok-a, digits-b) (same-damage row (shared level row e) (length a.notes) earlier a.notes b.notes first same.decided bin))
    where
      bin : (j : ℕ) → j < 4 → Binary (first j)
      bin = (send-sound level earlier row e a ok-a).digits

      digits-b : digits_of (sent_line level earlier b) ≡ line_digits row earlier b.notes first (length a.notes)
      digits-b = ap digits_of one_line ∙ line-digits row earlier b.notes first bin (length b.line) (length a.notes) (rw same.frames (send-places level earlier row e b ok-b))

-- two accepted sends that carried the same: the line of the one comes from that of the other by damage. So `sends-same` says
-- all that can be said
pub same-meet : (level earlier : ℕ) (a b : Lent) → SendAccepted level earlier a → SendAccepted level earlier b → SendsSame level earlier a b
    → DamageAt level earlier a.notes (sent_line level earlier a) (sent_line level earlier b)
same-meet level earlier a b ok-a = let on = send-level level earlier a ok-a in meet-on level earlier on.0 on.1 a b ok-a

-- what a reading leaves, sent on
module _ (level earlier : ℕ) (row : Row) (e : level_of level ≡ Some row) (c : Lent) (ok : ReadAccepted level earlier c) where
  buffer-on : length (sent_on level earlier c).buffer ≡ length c.buffer
  buffer-on =
      rw (read-buffer level earlier row e c ok)
      (quarters-length row earlier (notes_of row (digits_of c.line) (length c.notes)) c.line (length c.buffer / 4) ∙ sym (read-sizes level earlier row e c ok).quarters)

  accepted-on : NationalsSet row (read_notes level earlier c) → SendAccepted level earlier (sent_on level earlier c)
  accepted-on set =
      let frames = read-frames level earlier row e c ok in
      send-accepted level earlier row e (sent_on level earlier c) (rw (frames, buffer-on) (accepted-size level earlier row e c ok)) (accepted-vote level earlier row e c ok)
      (λ f hf.
      let in_line : f < length c.notes = omega (arith, frames) in
      rw (read-notes level earlier row e c ok) (note-fits row (digits_of c.line) (digits-binary c.line) f (shared level row e) (length c.notes) in_line))
      set

  counts-on : NationalsSet row (read_notes level earlier c) → sent_counts level earlier (sent_on level earlier c) ≡ read_counts level earlier c
  counts-on set =
      send-counts level earlier row e (sent_on level earlier c) (accepted-on set)
      ∙ rw (read-frames level earlier row e c ok, read-notes level earlier row e c ok) (sym (ap (λ (r : Outcome). r.counts) (read_answer level earlier row e c ok)))

  fours : (length (read_counts level earlier c) ≡ 4) × (length (read_dissent level earlier c) ≡ 4)
  fours =
      let answer = read_answer level earlier row e c ok in
      (ap (λ (r : Outcome). length r.counts) answer, ap (λ (r : Outcome). length r.dissent) answer)

  digits-on : NationalsSet row (read_notes level earlier c) → (j : ℕ) → sent_digits level earlier (sent_on level earlier c) j ≡ read_digits level earlier c j
  digits-on set j = ap (λ (counts : List ℕ). take (get_or counts j 0) (digits_of (quarter_of (sent_on level earlier c).buffer j))) (counts-on set)

-- whatever line was read, what the reading leaves is accepted for sending, where the national digits came as 1
pub sent-on-accepted : (level earlier : ℕ) (c : Lent) → ReadAccepted level earlier c → NationalsSetAt level (read_notes level earlier c)
    → SendAccepted level earlier (sent_on level earlier c)
sent-on-accepted level earlier c ok set = let on = read-level level earlier c ok in accepted-on level earlier on.0 on.1 c ok (rw on.1 at set)

-- where demultiplexing returned a send, what it leaves carries the same as the send
pub sent-on : (level earlier : ℕ) (send read : Lent) → SendReturned level earlier send read → NationalsSetAt level (read_notes level earlier read)
    → SendsSame level earlier send (sent_on level earlier read)
sent-on level earlier send read back came =
    let on = read-level level earlier read back.accepted in
    let set : NationalsSet on.0 (read_notes level earlier read) = rw on.1 at came in
    record {
      frames = sym back.frames;
      decided = λ j f hj hf. sym (back.decided j f hj hf);
      counted = sym back.counted ∙ sym (counts-on level earlier on.0 on.1 read back.accepted set);
      digits = λ j hj. sym (back.digits j hj) ∙ sym (digits-on level earlier on.0 on.1 read back.accepted set j);
    }

-- where each of the four tributaries comes out of two readings the same, so do all counts and all dissent
pub alike-answers : (level earlier : ℕ) (a b : Lent) → ReadAccepted level earlier a → ((k : ℕ) → k < 4 → ReadsSame level earlier k a b)
    → (read_counts level earlier a ≡ read_counts level earlier b) × (read_dissent level earlier a ≡ read_dissent level earlier b)
alike-answers level earlier a b ok same =
    let on = read-level level earlier a ok in
    let one = fours level earlier on.0 on.1 a ok in
    let two = fours level earlier on.0 on.1 b (same 0 (lit< tt)).accepted in (
      ext_get_or 0 (read_counts level earlier a) (read_counts level earlier b) (one.0 ∙ sym two.0) (λ k h. (same k (omega (arith, one.0))).counted),
      ext_get_or 0 (read_dissent level earlier a) (read_dissent level earlier b) (one.1 ∙ sym two.1) (λ k h. (same k (omega (arith, one.1))).dissenting),
    )

-- and what they leave carries the same
pub alike-on : (level earlier : ℕ) (a b : Lent) → ReadAccepted level earlier a → ((k : ℕ) → k < 4 → ReadsSame level earlier k a b)
    → NationalsSetAt level (read_notes level earlier a) → NationalsSetAt level (read_notes level earlier b) → SendsSame level earlier (sent_on level earlier a) (sent_on level earlier b)
alike-on level earlier a b ok same came came-b =
    let on = read-level level earlier a ok in
    let row = on.0 in
    let e = on.1 in
    let set : NationalsSet row (read_notes level earlier a) = rw e at came in
    let set_b : NationalsSet row (read_notes level earlier b) = rw e at came-b in
    let ok-b = (same 0 (lit< tt)).accepted in
    record {
      frames = (same 0 (lit< tt)).frames;
      decided = λ j f hj hf. (same j hj).decided f (omega (arith, read-frames level earlier row e a ok));
      counted = counts-on level earlier row e a ok set ∙ (alike-answers level earlier a b ok same).0 ∙ sym (counts-on level earlier row e b ok-b set_b);
      digits = λ j hj. digits-on level earlier row e a ok set j ∙ (same j hj).digits ∙ sym (digits-on level earlier row e b ok-b set_b j);
    }

-- so a station that demultiplexes a damaged line, its national digits not damaged, and multiplexes what it read sends a line that comes from the first
-- by damage
pub repeated : (level earlier : ℕ) (send read : Lent) → SendAccepted level earlier send → LentAt level send read → DamageAt level earlier send.notes (sent_line level earlier send) read.line
    → NationalsSetAt level (read_notes level earlier read) → DamageAt level earlier send.notes (sent_line level earlier send) (sent_line level earlier (sent_on level earlier read))
repeated level earlier send read ok lent damage came =
    let back = send-returned level earlier send read ok lent damage in
    same-meet level earlier send (sent_on level earlier read) ok (sent-on-accepted level earlier read back.accepted came) (sent-on level earlier send read back came)

-- and one that is sent on undamaged comes again, byte for byte
pub line-again : (level earlier : ℕ) (send read : Lent) → SendAccepted level earlier send → LentAt level send read → read.line ≡ sent_line level earlier send
    → sent_line level earlier (sent_on level earlier read) ≡ sent_line level earlier send
line-again level earlier send read ok lent same = let on = send-level level earlier send ok in go on.0 on.1
  where
    back : SendBack level earlier send read
    back = send-back level earlier send read ok lent same

    go : (row : Row) → level_of level ≡ Some row → sent_line level earlier (sent_on level earlier read) ≡ sent_line level earlier send
    go row e =
        let size : length read.line ≡ length send.line = ap length (same ∙ send-bytes level earlier row e send ok) ∙ bytes-length (length send.line) _ in
        let set : NationalsSet row (read_notes level earlier read) = rw back.noted (send-sound level earlier row e send ok).nationals_set in
        let came : NationalsSetAt level (read_notes level earlier read) = rw e set in
        let onward = sent-on-accepted level earlier read back.returned.accepted came in
        one_line level earlier row e send (sent_on level earlier read) ok onward (sent-on level earlier send read back.returned came)
        ∙ rw (back.noted, size) (sym (send-bytes level earlier row e send ok))
