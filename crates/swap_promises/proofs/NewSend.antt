-- "What multiplexing the new four would have made" is never empty: of an accepted send and an accepted swap of its line, the send with bit j of its notes and
-- its quarter j replaced is accepted, and makes the swapped line. Bits 4 and up of a note, by which it is judged, are the old note's.
use Rattle.std.specs.Prelude.{Some}
use mathlib.Core.Path.{◌≡◌, refl, sym, ◌∙◌, ap}
use mathlib.Core.Logic.{◌≢◌}
use mathlib.Core.Bool.{Bool, cond, true, false, ◌&&◌}
use mathlib.Core.List.{List, [], ◌++◌, append_assoc, append-nil}
use Prim.Native.Nat.{ℕ, ◌+◌, ◌*◌, ◌-◌, ◌/◌, ◌%◌, ◌^◌, ◌≤◌, ◌<◌}
use native.Mathlib.Omega.{arith}
use native.Mathlib.Decide.{dec_lt}
use native.Mathlib.Nat.{zero-add}
use lib.Dec.{eqb, ltb}
use lib.ListN.{length, get_or, take, drop, replicate, length-append, length-replicate, length-take, get_or-append, get_or-eq_default}
use lib.Seq.{length-take-le, take-take, take-append-le, get_or-append-add, get_or-take, get_or-drop}
use lib.Pow.{pow-add}
use borrow.Author.Tests.{eq-eqb, ne_eqb, le-ltb, ltb-false}
use Rattle.digits.specs.Digits.{digits_of, Bytes, tab, with_digit}
use Rattle.digits.proofs.Bits.{digit-same, digit-other, with-digit-fits}
use Rattle.digits.proofs.Laws.{bytes-length, digits_append, digits-length, digits-take, tab-length, tab-at, zeros-at}
use Rattle.digits.proofs.Lists.{of_four}
use Rattle.table.specs.declared.Row.{Row}
use Rattle.table.specs.Table.{level_of}
use Rattle.levels.specs.Sizes.{frames_of, quarter_of, Accepted}
use Rattle.levels.specs.Places.{noted_of}
use Rattle.levels.specs.Order.{has_negative, actions}
use Rattle.levels.proofs.Buffers.{quarter-at, quarter-length}
use Rattle.levels.proofs.Choice.{cond-by}
use Rattle.levels.proofs.Counts.{count_room}
use Rattle.levels.proofs.Judged.{no-size-refused}
use Rattle.levels.proofs.Refusals.{EarlierFits, NotesFit, NationalsSet}
use Rattle.promises.specs.Calls.{Lent, SendAccepted, sent_line, sent_counts, sent_digits}
use Rattle.promises.proofs.Accepted.{shared, send-sizes, send-vote, send-sound, send-accepted, send-bytes, send-count}
use Rattle.swap_promises.specs.Swapping.{Swap, SwapAccepted, swap_count, swap_digits, from0, Mixed, NewFour, mixed, fitted, new_part, new_vote, new_four, NewFourSent}
use Rattle.swap_promises.proofs.Places.{swap-level, swap-small, swap-noted, swap-fits, swap-count}
use Rattle.swap_promises.proofs.NewFour.{own_bits, beside-bits, count_by, becomes-new}

-- ---- a note with one bit replaced

pub is-mixed : (j one other : ℕ) → Mixed j one other (mixed j one other)
is-mixed j one other =
    record { own = digit-same other j (one / 2 ^ j % 2) (omega arith); beside = λ k h n. digit-other other j (one / 2 ^ j % 2) (omega arith) k n }

-- a decision's bit leaves the service bits as they are
same-service : (j one other : ℕ) → j < 4 → mixed j one other / 2 ^ 4 ≡ other / 2 ^ 4
unfolding with_digit
same-service j one other = by j (one / 2 ^ j % 2) (omega arith)
  where
    by : (j d : ℕ) → d < 2 → j < 4 → with_digit other j d / 2 ^ 4 ≡ other / 2 ^ 4
    by j d h = of_four (λ (k : ℕ). with_digit other k d / 2 ^ 4 ≡ other / 2 ^ 4) (omega arith) (omega arith) (omega arith) (omega arith) j

-- ---- bytes of bytes

bytes-append : (xs ys : List ℕ) → Bytes xs → Bytes ys → Bytes (xs ++ ys)
bytes-append xs ys bx by i =
    elim (dec_lt i (length xs)) [
      | yes h ↦ rw (get_or-append xs ys 0 i h) (bx i)
      | no h ↦
          let e : i ≡ length xs + (i - length xs) = omega arith in
          rw (e, get_or-append-add xs ys (i - length xs) 0) (by (i - length xs))
    ]

bytes_take : (n : ℕ) (xs : List ℕ) → Bytes xs → Bytes (take n xs)
bytes_take n xs bx i =
    elim (dec_lt i n) [
      | yes h ↦ rw (get_or-take n xs i 0 h) (bx i)
      | no h ↦ rw (get_or-eq_default (take n xs) 0 {n = i} (omega (arith, length-take n xs))) (omega arith)
    ]

bytes-part : (a n : ℕ) (xs : List ℕ) → Bytes xs → Bytes (take n (drop a xs))
bytes-part a n xs bx = bytes_take n (drop a xs) (λ i. rw (get_or-drop a xs i 0) (bx (a + i)))

-- ---- the quarters of four parts of one length

module _ (part : ℕ → List ℕ) (q : ℕ) (long : (k : ℕ) → k < 4 → length (part k) ≡ q) where
  abbrev all : List ℕ
  all = part 0 ++ (part 1 ++ (part 2 ++ part 3))

  pub parts-length : length all ≡ 4 * q
  parts-length = simp length-append (omega (arith, long 0 (omega arith), long 1 (omega arith), long 2 (omega arith), long 3 (omega arith)))

  two : length (part 0 ++ part 1) ≡ q + q
  two = length-append (part 0) (part 1) ∙ omega (arith, long 0 (omega arith), long 1 (omega arith))

  last : all ≡ ((part 0 ++ part 1) ++ part 2) ++ (part 3 ++ [])
  last = simp (append-nil, append_assoc)

  pub quarter-part : (k : ℕ) → k < 4 → quarter_of all k ≡ part k
  quarter-part =
      of_four (λ (k : ℕ). quarter_of all k ≡ part k)
      (quarter-at all [] (part 0) (part 1 ++ (part 2 ++ part 3)) 0 q refl parts-length (omega arith) (long 0 (omega arith)))
      (quarter-at all (part 0) (part 1) (part 2 ++ part 3) 1 q refl parts-length (omega (arith, long 0 (omega arith))) (long 1 (omega arith)))
      (quarter-at all (part 0 ++ part 1) (part 2) (part 3) 2 q (sym (append_assoc (part 0) (part 1) (part 2 ++ part 3))) parts-length (two ∙ omega arith) (long 2 (omega arith)))
      (quarter-at all ((part 0 ++ part 1) ++ part 2) (part 3) [] 3 q last parts-length
      (length-append (part 0 ++ part 1) (part 2) ∙ omega (arith, two, long 2 (omega arith))) (long 3 (omega arith)))

-- ---- as many bytes as a quarter has

fitted-length : (q : ℕ) (buffer : List ℕ) → length (fitted q buffer) ≡ q
fitted-length q buffer =
    length-take-le q (buffer ++ replicate q 0) (omega (arith, length-append buffer (replicate {A = ℕ} q 0), length-replicate {A = ℕ} q 0))

fitted-digits : (q n : ℕ) (buffer : List ℕ) → n ≤ 8 * q → n ≤ 8 * length buffer → take n (digits_of (fitted q buffer)) ≡ take n (digits_of buffer)
fitted-digits q n buffer a b =
    let zeros = replicate {A = ℕ} q 0 in
    ap (λ (ds : List ℕ). take n ds) (digits-take q (buffer ++ zeros))
    ∙ take-take n (8 * q) (digits_of (buffer ++ zeros)) a
    ∙ ap (λ (ds : List ℕ). take n ds) (digits_append buffer zeros)
    ∙ take-append-le n (digits_of buffer) (digits_of zeros) (omega (arith, digits-length buffer))

-- ---- the send of the new four

module _ (level x : ℕ) (row : Row) (e : level_of level ≡ Some row) (send : Lent) (sent : SendAccepted level x send) (s : Swap) (ok : SwapAccepted level (sent_line level x send) s) where
  abbrev line : List ℕ
  line = sent_line level x send

  abbrev F : ℕ
  F = length send.notes

  abbrev j : ℕ
  j = from0 s

  abbrev q : ℕ
  q = length send.buffer / 4

  abbrev y : ℕ
  y = new_vote x s

  abbrev four : Lent
  four = new_four send s

  sizes : Accepted row (length send.line) F (length send.buffer)
  sizes = send-sizes level x row e send sent

  small : j < 4
  small = swap-small level row e line s ok

  -- its notes
  frames : length four.notes ≡ F
  frames = tab-length F 0 _

  note-at : (f : ℕ) → f < F → get_or four.notes f 0 ≡ mixed j (get_or s.notes f 0) (get_or send.notes f 0)
  note-at f h =
      tab-at F 0 (λ (f : ℕ). mixed j (get_or s.notes f 0) (get_or send.notes f 0)) f h
      ∙ ap (λ (f : ℕ). mixed j (get_or s.notes f 0) (get_or send.notes f 0)) (zero-add f)

  noted : (f : ℕ) → f < F → Mixed j (get_or s.notes f 0) (get_or send.notes f 0) (get_or four.notes f 0)
  noted f h = rw (note-at f h) (is-mixed j (get_or s.notes f 0) (get_or send.notes f 0))

  note-fits : NotesFit row four.notes
  note-fits f h =
      let old = get_or send.notes f 0 in
      let was : old < 2 ^ (4 + noted_of row) = (send-sound level x row e send sent).notes_fit f (omega (arith, frames)) in
      rw (note-at f (omega (arith, frames))) (omega (arith, was, pow-add 2 4 (noted_of row), same-service j (get_or s.notes f 0) old small))

  nationals-kept : NationalsSet row four.notes
  nationals-kept f h =
      let old = get_or send.notes f 0 in
      let was = (send-sound level x row e send sent).nationals_set f (omega (arith, frames)) in
      let same : mixed j (get_or s.notes f 0) old / 2 ^ 5 ≡ old / 2 ^ 5 = omega (arith, same-service j (get_or s.notes f 0) old small) in
      rw (note-at f (omega (arith, frames)), same) was

  -- the vote before them
  vote-fits : EarlierFits row y
  vote-fits = go (has_negative row) (send-vote level x row e send sent)
    where
      go : (t : Bool) → t && ltb 15 x ≡ false → t && ltb 15 y ≡ false
      go true h = le-ltb 15 y (omega (arith, ltb-false 15 x h, same-service j s.earlier x small))
      go false h = refl

  -- its quarters
  part_length : (k : ℕ) → k < 4 → length (new_part send s k) ≡ q
  part_length k h = cond-by (λ (l : List ℕ). length l ≡ q) (eqb k j) (fitted-length q s.buffer) (quarter-length send.buffer k h)

  long : length four.buffer ≡ 4 * q
  long = parts-length (new_part send s) q part_length

  own-quarter : quarter_of four.buffer j ≡ fitted q s.buffer
  own-quarter = quarter-part (new_part send s) q part_length j small ∙ rw (eq-eqb j j refl)

  other-quarter : (k : ℕ) → k < 4 → k ≢ j → quarter_of four.buffer k ≡ quarter_of send.buffer k
  other-quarter k h far = quarter-part (new_part send s) q part_length k h ∙ rw (ne_eqb k j far)

  new-sizes : Accepted row (length send.line) (length four.notes) (length four.buffer)
  new-sizes =
      let whole : length four.buffer / 4 ≡ q = omega (arith, long) in
      record { framed = rw frames sizes.framed; quarters = omega (arith, long); room = rw whole sizes.room }

  -- so it is accepted
  made : SendAccepted level y four
  made =
      send-accepted level y row e four (no-size-refused row (length send.line) (length four.notes) (length four.buffer) new-sizes) vote-fits note-fits nationals-kept

  -- and is of the new four
  swap-frames : length s.notes ≡ F
  swap-frames =
      swap-noted level row e line s ok
      ∙ ap (λ (n : ℕ). frames_of row n) (ap length (send-bytes level x row e send sent) ∙ bytes-length (length send.line) _)
      ∙ sym sizes.framed.noted

  own : sent_digits level y four j ≡ swap_digits level line s
  own =
      let bits = own_bits j s.earlier x y s.notes send.notes four.notes swap-frames (is-mixed j s.earlier x) frames noted in
      let count = swap-count level row e line s ok in
      let most = count_room row (shared level row e) j small (actions row s.earlier s.notes j) (length s.notes) in
      let room : length s.notes * row.room ≤ 8 * q = rw (swap-frames ∙ sizes.framed.noted) sizes.room in
      ap (λ (n : ℕ). take n (digits_of (quarter_of four.buffer j))) (count_by level y row e four made j s.earlier s.notes small bits ∙ sym count)
      ∙ ap (λ (l : List ℕ). take (swap_count level line s) (digits_of l)) own-quarter
      ∙ fitted-digits q (swap_count level line s) s.buffer (omega (arith, count, most, room)) (omega (arith, count, most, (swap-fits level row e line s ok).room))

  beside : (k : ℕ) → k < 4 → k ≢ j → sent_digits level y four k ≡ sent_digits level x send k
  beside k h far =
      let bits = beside-bits j s.earlier x y s.notes send.notes four.notes (is-mixed j s.earlier x) frames noted k h far in
      ap (λ (n : ℕ). take n (digits_of (quarter_of four.buffer k))) (count_by level y row e four made k x send.notes h bits ∙ sym (send-count level x row e send sent k h))
      ∙ ap (λ (l : List ℕ). take (get_or (sent_counts level x send) k 0) (digits_of l)) (other-quarter k h far)

  of-new : NewFour level x send line s y four
  of-new = record { before = is-mixed j s.earlier x; frames = frames; noted = noted; own = own; beside = beside }

  -- and can be made
  byte-notes : Bytes send.notes → Bytes four.notes
  byte-notes bytes f =
      elim (dec_lt f F) [
        | yes h ↦ rw (note-at f h) (with-digit-fits (get_or send.notes f 0) j (get_or s.notes f 0 / 2 ^ j % 2) (omega arith) (bytes f) (omega (arith, small)))
        | no h ↦ rw (get_or-eq_default four.notes 0 {n = f} (omega (arith, frames))) (omega arith)
      ]

  byte-buffer : Bytes send.buffer → Bytes s.buffer → Bytes four.buffer
  byte-buffer old new =
      bytes-append (new_part send s 0) _ (part 0) (bytes-append (new_part send s 1) _ (part 1) (bytes-append (new_part send s 2) (new_part send s 3) (part 2) (part 3)))
    where
      part : (k : ℕ) → Bytes (new_part send s k)
      part k =
          cond-by (λ (l : List ℕ). Bytes l) (eqb k j) (bytes_take q (s.buffer ++ replicate q 0) (bytes-append s.buffer (replicate q 0) new (λ i. rw (zeros-at q i) (omega arith))))
          (bytes-part (k * q) q send.buffer old)

  pub sent-on : NewFourSent level x send s
  sent-on =
      record {
        accepted = made;
        new = of-new;
        line = becomes-new level x send s y four sent ok made of-new;
        vote = λ h. omega (arith, same-service j s.earlier x small);
        noted = byte-notes;
        lent = byte-buffer;
      }

-- for every accepted send and every accepted swap of its line there is an accepted send of the new four, and it makes the swapped line
pub new-four-sent : (level earlier : ℕ) (send : Lent) (s : Swap) → SendAccepted level earlier send → SwapAccepted level (sent_line level earlier send) s → NewFourSent level earlier send s
new-four-sent level earlier send s sent ok =
    let on = swap-level level (sent_line level earlier send) s ok in
    sent-on level earlier on.0 on.1 send sent s ok
