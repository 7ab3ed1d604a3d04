-- What is read of a swapped line: extraction by notes with the new bit returns the new digits, and the other three as before. And a swap of what was
-- read changes nothing but damaged control digits and stuffing digits.
use Rattle.std.specs.Prelude.{Some}
use mathlib.Core.Path.{◌≡◌, refl, sym, ◌∙◌, ap}
use mathlib.Core.Logic.{◌≢◌}
use mathlib.Core.Bool.{Bool, cond, true, false, false≢true, ◌&&◌, not}
use mathlib.Core.List.{List}
use Prim.Native.Nat.{ℕ, suc, ◌+◌, ◌*◌, ◌/◌, ◌%◌, ◌<◌}
use native.Mathlib.Omega.{arith}
use lib.Dec.{eqb}
use lib.ListN.{length, get_or, take}
use lib.Seq.{get_or-take}
use borrow.Author.Tests.{eq-eqb, ne_eqb, eqb-true, not-false}
use Rattle.digits.specs.Digits.{digits_of}
use Rattle.digits.proofs.Laws.{digits-length, map_at}
use Rattle.table.specs.declared.Row.{Row}
use Rattle.table.specs.Table.{level_of}
use Rattle.levels.specs.Table.{Shared}
use Rattle.levels.specs.declared.order.Action.{Action}
use Rattle.levels.specs.declared.places.Kind.{Kind}
use Rattle.levels.specs.declared.places.Kind.TheVariants.{Word, Service, Control, Justification, Tributary}
use Rattle.levels.specs.Places.{kind_at, pos_of, is_own}
use Rattle.levels.specs.Order.{stuffed, actions, carried, carries, before, places_of, count_of}
use Rattle.levels.proofs.Columns.{columns, frame-start}
use Rattle.levels.proofs.Inverse.{places-length, digit-of-place, before-rises}
use Rattle.levels.proofs.Counts.{line-count, count_room}
use Rattle.levels.specs.Line.{digit_by, line_digit}
use Rattle.levels.proofs.Line.{digit-carried}
use Rattle.extraction.specs.Quarters.{taken_to}
use Rattle.promises.specs.Calls.{Lent, ReadAccepted, read_notes}
use Rattle.promises.specs.Extraction.{ExtractAccepted, SameOwnAt, SameBit, ExtractsSame}
use Rattle.promises.proofs.Order.{column-place, count_same, actions-same, digits-back}
use Rattle.promises.proofs.Accepted.{shared, call-count, read-places, read-notes, read-frames, read-digits}
use Rattle.promises.proofs.Extraction.{carried-bears, bears-own, digits-left, own-only}
use Rattle.swap.specs.Swap.{swapped_line}
use Rattle.swap_promises.specs.Swapping.{Swap, SwapAccepted, swap_line, swap_count, swap_digits, from0, NewExtracted, AsRead, damaged, damaged_at, SameButDamagedAt}
use Rattle.swap_promises.proofs.Places.{swapped_at, other_at, swap-level, swap-small, swap-fits, swap_places, swap_line_lem, swap-count}
use Rattle.swap_promises.proofs.NewFour.{own-digit}

-- a place of tributary k is none of tributary j
apart : (row : Row) (p j k : ℕ) → k ≢ j → eqb (p % 4) k && is_own (kind_at row p) ≡ true → eqb (p % 4) j && is_own (kind_at row p) ≡ false
apart row p j k other own = go (eqb (p % 4) k) refl own
  where
    go : (t : Bool) → eqb (p % 4) k ≡ t → t && is_own (kind_at row p) ≡ true → eqb (p % 4) j && is_own (kind_at row p) ≡ false
    go true e o = rw (ne_eqb (p % 4) j (λ z. other (sym (eqb-true (p % 4) k e) ∙ z)))
    go false e o = absurd (false≢true o)

-- the other three come out as before
pub others-extracted : (level x y : ℕ) (line : List ℕ) (s : Swap) (k : ℕ) (a b : Lent) → SwapAccepted level line s → ExtractAccepted level x a → ExtractAccepted level y b
    → a.line ≡ line → b.line ≡ swap_line level line s → k < 4 → k ≢ from0 s → SameBit k x y a.notes b.notes → ExtractsSame level x y k a b
others-extracted level x y line s k a b ok ok-a ok-b old new hk other =
    own-only level x y k a b ok-a ok-b hk same
  where
    same : SameOwnAt level k a.line b.line
    same =
        let on = swap-level level line s ok in
        let row = on.0 in
        rw (old, new, swap_line_lem level row on.1 line s ok, on.1)
        (λ p h own. sym (other_at row s.earlier s.notes (from0 s) s.buffer line p (omega (arith, digits-length line)) (apart row p (from0 s) k other own)))

-- a place that carries a digit is an own place with the tributary's next one
carried-own : (kind : Kind) (act : Action) → carried kind act ≡ true → is_own kind ≡ true
carried-own kind act c = bears-own kind (carried-bears kind act c)

line-carried : (row : Row) (x : ℕ) (notes : List ℕ) (t : ℕ → List ℕ) (j c : ℕ) → j < 4 → carries row (actions row x notes j) (4 * c + j) ≡ true
    → line_digit row x notes t (4 * c + j) ≡ get_or (t j) (before row (actions row x notes j) j c) 0
unfolding line_digit carries
line-carried row x notes t j c hj h =
    let w : (4 * c + j) % 4 ≡ j = omega arith in
    let q : (4 * c + j) / 4 ≡ c = omega arith in
    let at = pos_of row (4 * c + j) in
    rw (w, q) (digit-carried row (get_or notes at.frame 0) (actions row x notes j at.frame) j at.place (get_or (t j) (before row (actions row x notes j) j c) 0) (kind_at row (4 * c + j)) h)

-- the tributary itself
module _ (level y : ℕ) (row : Row) (e : level_of level ≡ Some row) (line : List ℕ) (s : Swap) (c : Lent) (ok : SwapAccepted level line s) (ok-c : ExtractAccepted level y c)
    (new : c.line ≡ swap_line level line s) (bits : SameBit (from0 s) s.earlier y s.notes c.notes) where
  abbrev j : ℕ
  j = from0 s

  abbrev sh : Shared row
  sh = shared level row e

  abbrev F : ℕ
  F = length c.notes

  abbrev acts : ℕ → Action
  acts = actions row y c.notes j

  small : j < 4
  small = swap-small level row e line s ok

  same_count : count_of row acts F ≡ swap_count level line s
  same_count =
      ap (λ (n : ℕ). count_of row acts n) (sym bits.frames)
      ∙ sym (count_same row (actions row s.earlier s.notes j) acts (length s.notes) (actions-same row s.earlier y s.notes c.notes j (length s.notes) bits.before bits.bit))
      ∙ sym (swap-count level row e line s ok)

  whole : before row acts j (F * columns row) ≡ count_of row acts F
  unfolding count_of
  whole = omega (arith, line-count row sh j small acts F)

  back : (z : ℕ) → z < F * columns row → carries row acts (4 * z + j) ≡ true → get_or (digits_of c.line) (4 * z + j) 0 ≡ get_or (digits_of s.buffer) (before row acts j z) 0
  unfolding carries
  back z h carrying =
      let p = 4 * z + j in
      let w : p % 4 ≡ j = omega (arith, small) in
      let own = carried-own (kind_at row p) (acts (pos_of row p).frame) carrying in
      let inside : p < F * row.digits = column-place row sh F j small z h in
      let frames : F * row.digits ≡ length s.notes * row.digits = ap (λ (n : ℕ). n * row.digits) (sym bits.frames) in
      let places = swap_places level row e line s ok in
      rw (new, swap_line_lem level row e line s ok)
      (swapped_at row s.earlier s.notes j s.buffer line p (omega (arith, inside, frames, places))
      ∙ rw (eq-eqb (p % 4) j w, own)
      (own-digit row sh s.earlier y s.notes c.notes (λ (k : ℕ). digits_of s.buffer) (λ (k : ℕ). digits_of s.buffer) p (omega (arith, inside, frames)) own (rw w bits) (λ i hi. refl)
      ∙ line-carried row y c.notes (λ (k : ℕ). digits_of s.buffer) j z small carrying))

  new-on : NewExtracted level y line s c
  unfolding taken_to
  new-on =
      record {
        counted = call-count level y row e c ok-c j small ∙ same_count;
        digits = digits-left level y row e c ok-c j small
            ∙ digits-back row acts j (digits_of c.line) (digits_of s.buffer) (F * columns row) back
            (omega (arith, whole, count_room row sh j small acts F, digits-length s.buffer, (swap-fits level row e line s ok).room, ap (λ (n : ℕ). n * row.room) bits.frames))
            ∙ ap (λ (n : ℕ). take n (digits_of s.buffer)) (whole ∙ same_count);
      }

-- extraction by notes with the new bit returns the new digits
pub new-extracted : (level y : ℕ) (line : List ℕ) (s : Swap) (c : Lent) → SwapAccepted level line s → ExtractAccepted level y c → c.line ≡ swap_line level line s
    → SameBit (from0 s) s.earlier y s.notes c.notes → NewExtracted level y line s c
new-extracted level y line s c ok ok-c new bits = let on = swap-level level line s ok in new-on level y on.0 on.1 line s c ok ok-c new bits

-- an own place that is not damaged has the digit that a swap of what was read puts there
kept_by : (row : Row) (note : ℕ) (act : Action) (j r next d : ℕ) (kind : Kind) → is_own kind ≡ true → damaged kind act (stuffed note j) d ≡ false → (carried kind act ≡ true → d ≡ next)
    → d ≡ digit_by row note act j r next kind
kept_by row note act j r next d Word o sound same = absurd (false≢true o)
kept_by row note act j r next d (Service s) o sound same = absurd (false≢true o)
kept_by row note act j r next d Control o sound same = eqb-true d (cond (stuffed note j) 1 0) (not-false (eqb d (cond (stuffed note j) 1 0)) sound)
kept_by row note act j r next d (Justification sign) o sound same = go (carried (Justification sign) act) sound same
  where
    go : (t : Bool) → not t && not (eqb d 1) ≡ false → (t ≡ true → d ≡ next) → d ≡ cond t next 1
    go true sound same = same refl
    go false sound same = eqb-true d 1 (not-false (eqb d 1) sound)
kept_by row note act j r next d Tributary o sound same = same refl

-- over the row: what was taken by notes, put back by them
module _ (row : Row) (sh : Shared row) (x : ℕ) (notes ds : List ℕ) (j : ℕ) (hj : j < 4) where
  abbrev taken : List ℕ
  taken = taken_to row x notes ds j (length notes * columns row)

  abbrev by-notes : ℕ → Action
  by-notes = actions row x notes j

  -- digit number `before` of those taken is the one at its place
  taken_at : (z : ℕ) → z < length notes * columns row → carries row by-notes (4 * z + j) ≡ true → get_or ds (4 * z + j) 0 ≡ get_or taken (before row by-notes j z) 0
  unfolding taken_to before
  taken_at z h c =
      let n = length notes * columns row in
      let one : cond {A = ℕ} (carries row by-notes (4 * z + j)) 1 0 ≡ 1 = rw c in
      let within : before row by-notes j z < length (places_of row by-notes j n) = omega (arith, one, before-rises row by-notes j (suc z) n h, places-length row by-notes j n) in
      sym
      (map_at (λ (p : ℕ). get_or ds p 0) (places_of row by-notes j n) (before row by-notes j z) within ∙ ap (λ (p : ℕ). get_or ds p 0) (digit-of-place row by-notes j n z h c))

  put_back : (p : ℕ) → p < length notes * row.digits → p % 4 ≡ j → is_own (kind_at row p) ≡ true → damaged_at row x notes j ds p ≡ false
      → get_or ds p 0 ≡ line_digit row x notes (λ (k : ℕ). taken) p
  unfolding line_digit carries
  put_back p h w o sound =
      let place : 4 * (p / 4) + j ≡ p = omega arith in
      let column : p / 4 < length notes * columns row = omega (arith, frame-start row sh 0 (omega arith) (length notes)) in
      let f = (pos_of row p).frame in
      rw w
      (kept_by row (get_or notes f 0) (by-notes f) j (pos_of row p).place (get_or taken (before row by-notes j (p / 4)) 0) (get_or ds p 0) (kind_at row p) o (rw (eq-eqb (p % 4) j w) at sound)
      (λ c. rw place at (taken_at (p / 4) column (rw place c))))

module _ (level x : ℕ) (row : Row) (e : level_of level ≡ Some row) (read : Lent) (s : Swap) (was_read : ReadAccepted level x read)
    (ok : SwapAccepted level read.line s) (same : AsRead level x read s) where
  abbrev tributary : ℕ
  tributary = from0 s

  abbrev notes : List ℕ
  notes = read_notes level x read

  abbrev ds : List ℕ
  ds = digits_of read.line

  facts : Shared row
  facts = shared level row e

  in_four : tributary < 4
  in_four = swap-small level row e read.line s ok

  as-taken : swap_digits level read.line s ≡ taken_to row x notes ds tributary (length notes * columns row)
  as-taken =
      same.digits ∙ read-digits level x row e read was_read tributary in_four
      ∙ rw (read-frames level x row e read was_read, read-notes level x row e read was_read)

  count-read : count_of row (actions row x notes tributary) (length notes) ≡ swap_count level read.line s
  count-read =
      count_same row (actions row x notes tributary) (actions row s.earlier s.notes tributary) (length notes)
      (actions-same row x s.earlier notes s.notes tributary (length notes) same.bits.before same.bits.bit)
      ∙ ap (λ (n : ℕ). count_of row (actions row s.earlier s.notes tributary) n) same.bits.frames
      ∙ sym (swap-count level row e read.line s ok)

  digits-read : (i : ℕ) → i < count_of row (actions row x notes tributary) (length notes)
      → get_or (taken_to row x notes ds tributary (length notes * columns row)) i 0 ≡ get_or (digits_of s.buffer) i 0
  digits-read i h = ap (λ (l : List ℕ). get_or l i 0) (sym as-taken) ∙ get_or-take (swap_count level read.line s) (digits_of s.buffer) i 0 (omega (arith, count-read))

  module _ (p : ℕ) (h : p < 8 * length read.line) (sound : damaged_at row x notes tributary ds p ≡ false) where
    inside : p < length notes * row.digits
    inside = omega (arith, h, read-places level x row e read was_read, ap (λ (n : ℕ). n * row.digits) (read-frames level x row e read was_read))

    at : (t o : Bool) → eqb (p % 4) tributary ≡ t → is_own (kind_at row p) ≡ o
        → get_or ds p 0 ≡ cond (t && o) (line_digit row s.earlier s.notes (λ (k : ℕ). digits_of s.buffer) p) (get_or ds p 0)
    at true true et eo =
        let w = eqb-true (p % 4) tributary et in
        put_back row facts x notes ds tributary in_four p inside w eo sound
        ∙ own-digit row facts x s.earlier notes s.notes (λ (k : ℕ). taken_to row x notes ds tributary (length notes * columns row)) (λ (k : ℕ). digits_of s.buffer) p inside
        eo
        (rw w same.bits)
        (rw w digits-read)
    at true false et eo = refl
    at false o et eo = refl

    kept_at : get_or ds p 0 ≡ get_or (digits_of (swapped_line row s.earlier s.notes tributary s.buffer read.line)) p 0
    kept_at = at (eqb (p % 4) tributary) (is_own (kind_at row p)) refl refl ∙ sym (swapped_at row s.earlier s.notes tributary s.buffer read.line p h)

-- swapping in what was read, the tributary's digits and its votes, changes nothing but damaged control digits and stuffing digits
pub as_it_was : (level earlier : ℕ) (read : Lent) (s : Swap) → ReadAccepted level earlier read → SwapAccepted level read.line s → AsRead level earlier read s
    → SameButDamagedAt level earlier (read_notes level earlier read) (from0 s) read.line (swap_line level read.line s)
as_it_was level earlier read s was_read ok same =
    let on = swap-level level read.line s ok in
    rw (swap_line_lem level on.0 on.1 read.line s ok, on.1)
    (λ p h sound. kept_at level earlier on.0 on.1 read s was_read ok same p (omega (arith, digits-length read.line)) sound)
