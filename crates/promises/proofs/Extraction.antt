-- Extraction alone: a tributary's digits and count depend on the digits at its justification and tributary places and on its own bit of each note;
-- by the notes that were read of a multiplexed line what was sent is returned; by notes shifted by a frame a tributary whose decisions do not change
-- comes out the same.
use Rattle.std.specs.Prelude.{Option, Some, None}
use mathlib.Core.Path.{◌≡◌, refl, sym, ◌∙◌, ap}
use mathlib.Core.Bool.{Bool, true, false, false≢true, ◌&&◌}
use mathlib.Core.List.{List, [], ◌∷◌, ◌++◌}
use Prim.Native.Nat.{ℕ, zero, suc, ◌+◌, ◌*◌, ◌/◌, ◌%◌, ◌<◌}
use native.Mathlib.Omega.{arith}
use native.Mathlib.Decide.{dec_lt}
use lib.Dec.{eqb}
use lib.ListN.{length, get_or, take, drop, length-append, length-take, length-drop, get_or-append}
use lib.Seq.{get_or-take, get_or-drop, get_or-append-add}
use borrow.Author.Tests.{eq-eqb}
use Rattle.digits.specs.Digits.{digits_of}
use Rattle.digits.proofs.Tests.{and_both}
use Rattle.digits.proofs.Laws.{digits-length, tab-length}
use Rattle.table.specs.declared.Row.{Row}
use Rattle.levels.specs.declared.order.Action.{Action}
use Rattle.levels.specs.declared.places.Kind.{Kind}
use Rattle.levels.specs.declared.places.Kind.TheVariants.{Word, Service, Control, Justification, Tributary}
use Rattle.table.specs.Table.{level_of}
use Rattle.levels.specs.Table.{Shared}
use Rattle.levels.specs.Sizes.{on_level, Accepted}
use Rattle.levels.specs.Places.{kind_at, pos_of, is_own}
use Rattle.levels.specs.Order.{stuffed, decisions, actions, carried, carries, count_of, counts_of}
use Rattle.levels.proofs.Columns.{columns}
use Rattle.levels.proofs.Judged.{fits-quarter, no-frames-refused, no-size-refused}
use Rattle.reading.specs.Reading.{notes_after}
use Rattle.extraction.specs.Quarters.{taken_to, quarters_from}
use Rattle.extraction.specs.Extract.{buffer_after}
use Rattle.levels.specs.Line.{line_digit}
use Rattle.promises.specs.Damage.{line_digits}
use Rattle.promises.specs.Carried.{digits_read, CameBack}
use Rattle.promises.specs.Calls.{Lent, SendAccepted, sent_line, LentFor, LentAt}
use Rattle.promises.specs.Extraction.{ExtractAccepted, extract_digits, SameOwn, SameOwnAt, bears, SameBearing, SameBearingAt}
use Rattle.promises.specs.Extraction.{is_control, SameButControls, SameButControlsAt, SameBit, ExtractsSame, Extracted, frame_before, frame_after, by_notes, Steady}
use Rattle.promises.proofs.Order.{column-place, places_same, count_same, actions-same, digits_same}
use Rattle.promises.proofs.RoundTrip.{round_trip}
use Rattle.promises.proofs.Accepted.{call-level, send-level, shared, lent-accepted, call-accepted, tributary, found, unrefused, call-sizes, call-places}
use Rattle.promises.proofs.Accepted.{call-counts, call-count, send-sizes, send-vote, send-places, send-sound, send_line}
use Rattle.promises.proofs.Accepted.{send-counts, send-digits, quarter-taken}

-- a place that carries a digit bears one
pub carried-bears : (k : Kind) (act : Action) → carried k act ≡ true → bears k ≡ true
carried-bears Word act c = absurd (false≢true c)
carried-bears (Service s) act c = absurd (false≢true c)
carried-bears Control act c = absurd (false≢true c)
carried-bears (Justification sign) act c = refl
carried-bears Tributary act c = refl

-- and is the tributary's own
pub bears-own : (k : Kind) → bears k ≡ true → is_own k ≡ true
bears-own Word b = absurd (false≢true b)
bears-own (Service s) b = absurd (false≢true b)
bears-own Control b = refl
bears-own (Justification sign) b = refl
bears-own Tributary b = refl

module _ (level earlier : ℕ) (row : Row) (e : level_of level ≡ Some row) where
  abbrev sh : Shared row
  sh = shared level row e

  -- what an accepted extraction leaves of tributary j
  module _ (c : Lent) (ok : ExtractAccepted level earlier c) (j : ℕ) (hj : j < 4) where
    left : buffer_after level earlier c.line c.notes c.buffer ≡ quarters_from row earlier c.notes c.line (length c.buffer / 4)
    left = rw (e, eq-eqb (found level earlier row e c ok).refusal 0 (unrefused level earlier row e c ok))

    pub digits-left : extract_digits level earlier c j ≡ taken_to row earlier c.notes (digits_of c.line) j (length c.notes * columns row)
    digits-left =
        let room = (fits-quarter sh (call-sizes level earlier row e c ok)).room in
        rw (left, call-count level earlier row e c ok j hj)
        (quarter-taken row sh earlier c.notes c.line (length c.notes) (length c.buffer / 4) j hj (call-places level earlier row e c ok) room)

  -- the line of a send, by the notes that are read of it
  back_on : (send c : Lent) (old : List ℕ) → SendAccepted level earlier send → LentFor row.room send c → c.line ≡ sent_line level earlier send → length old ≡ length send.notes
      → c.notes ≡ notes_after level c.line old → Extracted level earlier send c
  back_on send c old ok lent line many read =
      record {
        accepted = accepted;
        counted = call-counts level earlier row e c accepted ∙ ap (λ (notes : List ℕ). counts_of row earlier notes (length notes)) sent ∙ sym (send-counts level earlier row e send ok);
        digits = λ j hj. digits-left c accepted j hj ∙ (taken j ∙ (trip.returned.digits j hj ∙ sym (send-digits level earlier row e send ok j hj)));
      }
    where
      F : ℕ
      F = length send.notes

      trip : CameBack row earlier F send.notes (tributary level earlier row e send ok) (line_digits row earlier send.notes (tributary level earlier row e send ok) F)
      trip = round_trip row sh F earlier send.notes (tributary level earlier row e send ok) (send-sound level earlier row e send ok)

      ds : digits_of c.line ≡ line_digits row earlier send.notes (tributary level earlier row e send ok) F
      ds = ap digits_of line ∙ send_line level earlier row e send ok

      long : length c.line ≡ length send.line
      long =
          let whole = tab-length (F * row.digits) 0 (line_digit row earlier send.notes (tributary level earlier row e send ok)) in
          omega (arith, digits-length c.line, ap length ds, whole, send-places level earlier row e send ok)

      sizes : Accepted row (length c.line) (length c.notes) (length c.buffer)
      sizes = lent-accepted level row e send c (send-sizes level earlier row e send ok) long lent

      sent : c.notes ≡ send.notes
      sent =
          let framed = rw lent.noted at sizes.framed in
          read ∙ rw (e, many, no-frames-refused row (length c.line) F framed, ds) trip.noted

      taken : (j : ℕ) → taken_to row earlier c.notes (digits_of c.line) j (length c.notes * columns row)
          ≡ digits_read row earlier F (line_digits row earlier send.notes (tributary level earlier row e send ok) F) j
      taken j = rw (sent, ds, trip.noted)

      accepted : ExtractAccepted level earlier c
      accepted =
          call-accepted level earlier row e c (no-size-refused row (length c.line) (length c.notes) (length c.buffer) sizes) (send-vote level earlier row e send ok)
          (rw sent (send-sound level earlier row e send ok).notes_fit)

-- tributary k by its own digits and its own bits, of the notes and of the vote before them
module _ (level x y : ℕ) (row : Row) (e : level_of level ≡ Some row) where
  abbrev shared-facts : Shared row
  shared-facts = shared level row e

  bearing-on : (k : ℕ) (a b : Lent) → ExtractAccepted level x a → ExtractAccepted level y b → k < 4
      → SameBearing row k (digits_of a.line) (digits_of b.line) → SameBit k x y a.notes b.notes → ExtractsSame level x y k a b
  unfolding taken_to carries
  bearing-on k a b ok-a ok-b hk same bits =
      record {
        counted = call-count level x row e a ok-a k hk ∙ count_same row da db F acts ∙ ap (λ (n : ℕ). count_of row db n) bits.frames ∙ sym (call-count level y row e b ok-b k hk);
        digits = digits-left level x row e a ok-a k hk ∙ taken ∙ ap (λ (n : ℕ). taken_to row y b.notes (digits_of b.line) k (n * columns row)) bits.frames
            ∙ sym (digits-left level y row e b ok-b k hk);
      }
    where
      F : ℕ
      F = length a.notes

      da : ℕ → Action
      da = actions row x a.notes k

      db : ℕ → Action
      db = actions row y b.notes k

      acts : (f : ℕ) → f < F → da f ≡ db f
      acts = actions-same row x y a.notes b.notes k F bits.before bits.bit

      at : (c : ℕ) → c < F * columns row → carries row db (4 * c + k) ≡ true → get_or (digits_of a.line) (4 * c + k) 0 ≡ get_or (digits_of b.line) (4 * c + k) 0
      at c h carrying =
          let w : (4 * c + k) % 4 ≡ k = omega arith in
          same (4 * c + k) (omega (arith, column-place row shared-facts F k hk c h, digits-length a.line, call-places level x row e a ok-a))
          (rw (eq-eqb ((4 * c + k) % 4) k w) (carried-bears (kind_at row (4 * c + k)) (db (pos_of row (4 * c + k)).frame) carrying))

      taken : taken_to row x a.notes (digits_of a.line) k (F * columns row) ≡ taken_to row y b.notes (digits_of b.line) k (F * columns row)
      taken =
          rw (places_same row shared-facts F k hk da db acts (F * columns row) (omega arith))
          (digits_same row db k (digits_of a.line) (digits_of b.line) (F * columns row) at)

-- a tributary depends on no more of the line than the digits at its justification and tributary places: on no control digit; and of notes and the
-- vote before them on its own bit
pub bearing-only : (level x y k : ℕ) (a b : Lent) → ExtractAccepted level x a → ExtractAccepted level y b → k < 4 → SameBearingAt level k a.line b.line
    → SameBit k x y a.notes b.notes → ExtractsSame level x y k a b
bearing-only level x y k a b ok-a ok-b hk same =
    let on = call-level level x a ok-a in
    bearing-on level x y on.0 on.1 k a b ok-a ok-b hk (rw on.1 at same)

-- "for accepted extraction alone, a tributary depends on its own places and its own bit of each note"; "a tributary depends on its own bit" of the
-- vote before frame 0
pub own-only : (level x y k : ℕ) (a b : Lent) → ExtractAccepted level x a → ExtractAccepted level y b → k < 4 → SameOwnAt level k a.line b.line
    → SameBit k x y a.notes b.notes → ExtractsSame level x y k a b
own-only level x y k a b ok-a ok-b hk same = bearing-only level x y k a b ok-a ok-b hk (own (level_of level) same)
  where
    both : (t : Bool) (kind : Kind) → t && bears kind ≡ true → t && is_own kind ≡ true
    both true kind h = bears-own kind h
    both false kind h = h

    own : (l : Option Row) → on_level l (λ (row : Row). SameOwn row k (digits_of a.line) (digits_of b.line)) ⊥
        → on_level l (λ (row : Row). SameBearing row k (digits_of a.line) (digits_of b.line)) ⊥
    own (Some row) same = λ p h c. same p h (both (eqb (p % 4) k) (kind_at row p) c)
    own None same = same

-- "looks at no control digit": lines that differ in control digits alone come out the same by the same notes, all four tributaries
bears-no-control : (k : Kind) → bears k ≡ true → is_control k ≡ false
bears-no-control Word b = refl
bears-no-control (Service s) b = refl
bears-no-control Control b = absurd (false≢true b)
bears-no-control (Justification sign) b = refl
bears-no-control Tributary b = refl

pub no-control-digit : (level earlier : ℕ) (a b : Lent) → ExtractAccepted level earlier a → ExtractAccepted level earlier b → a.notes ≡ b.notes
    → SameButControlsAt level a.line b.line → (k : ℕ) → k < 4 → ExtractsSame level earlier earlier k a b
no-control-digit level earlier a b ok-a ok-b notes same k hk =
    bearing-only level earlier earlier k a b ok-a ok-b hk (bearing (level_of level) same)
    (record { before = refl; frames = ap (λ (ns : List ℕ). length ns) notes; bit = λ f h. ap (λ (ns : List ℕ). decisions ns k f) notes })
  where
    bearing : (l : Option Row) → on_level l (λ (row : Row). SameButControls row (digits_of a.line) (digits_of b.line)) ⊥
        → on_level l (λ (row : Row). SameBearing row k (digits_of a.line) (digits_of b.line)) ⊥
    bearing (Some row) same = λ p h c. same p h (bears-no-control (kind_at row p) (and_both (eqb (p % 4) k) (bears (kind_at row p)) c).1)
    bearing None same = same

-- extraction of a line that was multiplexed, by the notes that were read of it, returns what was sent
pub extract-back : (level earlier : ℕ) (send c : Lent) (old : List ℕ) → SendAccepted level earlier send → LentAt level send c → c.line ≡ sent_line level earlier send
    → length old ≡ length send.notes → c.notes ≡ notes_after level c.line old → Extracted level earlier send c
extract-back level earlier send c old ok lent = let on = send-level level earlier send ok in back_on level earlier on.0 on.1 send c old ok (rw on.1 at lent)

-- notes a frame late or early have the same bit where it does not change
before_same : (k note x y : ℕ) (notes : List ℕ) → Steady k note x y notes → SameBit k x y notes (frame_before note notes)
before_same k note x y notes steady =
    record {
      before = steady.before ∙ sym steady.before_shifted;
      frames = sym (length-take (length notes) (note ∷ notes) ∙ omega arith);
      bit = λ f h. steady.bit f h ∙ sym (ap (λ (n : ℕ). stuffed n k) (get_or-take (length notes) (note ∷ notes) f 0 h) ∙ shifted f h);
    }
  where
    shifted : (f : ℕ) → f < length notes → stuffed (get_or (note ∷ notes) f 0) k ≡ stuffed note k
    shifted zero h = refl
    shifted (suc f) h = steady.bit f (omega arith)

after_same : (k note x y : ℕ) (notes : List ℕ) → Steady k note x y notes → SameBit k x y notes (frame_after note notes)
after_same k note x y notes steady =
    record {
      before = steady.before ∙ sym steady.before_shifted;
      frames = sym (length-drop 1 (notes ++ (note ∷ [])) ∙ omega (arith, length-append notes (note ∷ [])));
      bit = λ f h. steady.bit f h ∙ sym (ap (λ (n : ℕ). stuffed n k) (get_or-drop 1 (notes ++ (note ∷ [])) f 0) ∙ shifted f h);
    }
  where
    shifted : (f : ℕ) → f < length notes → stuffed (get_or (notes ++ (note ∷ [])) (1 + f) 0) k ≡ stuffed note k
    shifted f h =
        elim (dec_lt (1 + f) (length notes)) [
          | yes l ↦ ap (λ (n : ℕ). stuffed n k) (get_or-append notes (note ∷ []) 0 (1 + f) l) ∙ steady.bit (1 + f) l
          | no l ↦ let last : 1 + f ≡ length notes + 0 = omega arith in rw last (ap (λ (n : ℕ). stuffed n k) (get_or-append-add notes (note ∷ []) 0 0))
        ]

-- a line has the digits that it has
same_line : (level earlier k : ℕ) (c : Lent) → ExtractAccepted level earlier c → SameBearingAt level k c.line c.line
same_line level earlier k c ok = let on = call-level level earlier c ok in rw on.1 (λ p h b. refl)

-- so a tributary whose decisions do not change comes out the same
pub notes-before : (level x y k note : ℕ) (c : Lent) → ExtractAccepted level x c → ExtractAccepted level y (by_notes c (frame_before note c.notes)) → k < 4
    → Steady k note x y c.notes → ExtractsSame level x y k c (by_notes c (frame_before note c.notes))
notes-before level x y k note c ok ok-late hk steady =
    bearing-only level x y k c (by_notes c (frame_before note c.notes)) ok ok-late hk (same_line level x k c ok) (before_same k note x y c.notes steady)

pub notes-after : (level x y k note : ℕ) (c : Lent) → ExtractAccepted level x c → ExtractAccepted level y (by_notes c (frame_after note c.notes)) → k < 4
    → Steady k note x y c.notes → ExtractsSame level x y k c (by_notes c (frame_after note c.notes))
notes-after level x y k note c ok ok-early hk steady =
    bearing-only level x y k c (by_notes c (frame_after note c.notes)) ok ok-early hk (same_line level x k c ok) (after_same k note x y c.notes steady)
