-- The tributaries under way (`Handing`): that it holds at the start, that a set more keeps it, and what it says at the end of a frame and of the line.
use mathlib.Core.Path.{◌≡◌, sym, ◌∙◌, ap}
use mathlib.Core.List.{List, ◌∷◌, ◌++◌}
use Prim.Native.Nat.{ℕ, ◌+◌, ◌*◌, ◌≤◌, ◌<◌}
use native.Mathlib.Omega.{arith}
use native.Mathlib.Nat.{add-mul, mul-le-mul_right, mul_left_comm}
use lib.ListN.{length, get_or, take, length-append}
use lib.Seq.{length-take-le}
use Rattle.digits.specs.Digits.{digits_of, written}
use Rattle.digits.proofs.Laws.{digits-length}
use Rattle.digits.proofs.Written.{written-length}
use Rattle.words.specs.declared.Writer.{Writer}
use Rattle.words.specs.Words.{out_from}
use Rattle.table.specs.declared.Row.{Row}
use Rattle.levels.specs.declared.order.Action.{Action}
use Rattle.levels.specs.Table.{Shared}
use Rattle.levels.specs.Sizes.{Fits}
use Rattle.levels.specs.Order.{before, acts_by, actions, places_of}
use Rattle.levels.proofs.Columns.{wide, columns, frame-start}
use Rattle.levels.proofs.Sentences.{set-start}
use Rattle.levels.proofs.Counts.{count-of, count_room}
use Rattle.levels.proofs.Inverse.{before-rises}
use Rattle.levels.proofs.Judged.{room_small, short-line}
use Rattle.unweave.specs.declared.Writers.{Writers}
use Rattle.unweave.specs.Lanes.{set_digits}
use Rattle.unweave.specs.Quarters.{part_of, writer_of, Roomy, Grown}
use Rattle.unweave.proofs.Four.{part-lent, part-size}
use Rattle.extraction.specs.Quarters.{taken_to}
use Rattle.extraction.specs.Handing.{Handing}
use Rattle.extraction.proofs.Taking.{taken-length, taken-set}

-- how many digits a writer has put out
pub out-length : (s : List ℕ) (w : Writer) → w.at ≤ length s → length (out_from 0 s w) ≡ 8 * w.at + w.fill
unfolding out_from
out-length s w h =
    length-append (digits_of (take w.at s)) _
    ∙ omega (arith, digits-length (take w.at s), length-take-le w.at s h, written-length w.fill w.held)

-- the frames of a line
module _ {row : Row} {line notes q : ℕ} (fits : Fits row line notes q) where
  abbrev sh : Shared row
  sh = fits.shared

  pub line_short : line ≤ 65536
  line_short = short-line row sh notes line fits.few fits.whole

  pub frames-all : notes * columns row ≡ 2 * line
  frames-all =
      let half : columns row ≡ 2 * row.bytes = omega (arith, sh.packed) in
      ap (λ (k : ℕ). notes * k) half ∙ mul_left_comm notes 2 row.bytes ∙ ap (λ (k : ℕ). 2 * k) (sym fits.whole)

  pub frame-all : (f : ℕ) → f * columns row + row.sets * wide row ≡ (f + 1) * columns row
  frame-all f =
      let all : row.sets * wide row ≡ columns row = omega (arith, sh.whole, sh.packed, set-start row sh row.sets) in
      omega (arith, all, add-mul f 1 (columns row))

  -- a set of theirs lies in the line
  module _ (f s : ℕ) (hf : f < notes) (hs : s < row.sets) where
    pub set-end : f * columns row + (s + 1) * wide row ≤ 2 * line
    set-end =
        omega (arith, frames-all, frame-all f, mul-le-mul_right {m = s + 1} {n = row.sets} (wide row) (omega arith), mul-le-mul_right {m = f + 1} {n = notes} (columns row) (omega arith))

    pub set-inside : f * row.digits + s * row.set + row.set ≤ 8 * line
    set-inside =
        omega (arith, set-end, set-start row sh s, add-mul s 1 (wide row), sh.set_fours, frame-start row sh 0 (omega arith) f)

  -- and its digits have room
  pub most : (j : ℕ) → j < 4 → (acts : ℕ → Action) (x : ℕ) → x ≤ 2 * line → before row acts j x ≤ notes * row.room
  most j jh acts x h =
      omega (arith, before-rises row acts j x (2 * line) h, count-of row sh j jh acts notes line fits.whole, count_room row sh j jh acts notes)

-- nothing yet
pub handing-none : {row : Row} (earlier : ℕ) (line notes : List ℕ) {q : ℕ} (buffer : List ℕ) → Fits row (length line) (length notes) q → length buffer ≡ 4 * q → (w : Writers)
    → ((j : ℕ) → j < 4 → writer_of w j ≡ record { at = 0; held = 0; fill = 0 }) → Handing row earlier line notes q 0 buffer w
unfolding out_from taken_to places_of written digits_of
handing-none earlier line notes buffer fits size w new =
    record {
      fits = fits;
      size = size;
      within = λ j h. rw (new j h) (record { ready = record { few = omega arith; fits = omega arith }; room = omega arith });
      out = λ j h. rw (new j h);
    }

module _ {row : Row} {earlier : ℕ} {line notes : List ℕ} {q x : ℕ} {buffer : List ℕ} {w : Writers} (so_far : Handing row earlier line notes q x buffer w) (j : ℕ) (jh : j < 4) where
  pub part_length : length (part_of q buffer j) ≡ q
  part_length = ap length (sym (part-lent q j buffer jh (omega (arith, so_far.size)))) ∙ part-size q j buffer jh (omega (arith, so_far.size))

  -- how many digits of the tributary have come
  pub come : 8 * (writer_of w j).at + (writer_of w j).fill ≡ before row (actions row earlier notes j) j x
  come =
      sym (out-length (part_of q buffer j) (writer_of w j) (omega (arith, (so_far.within j jh).room, part_length)))
      ∙ ap length (so_far.out j jh)
      ∙ taken-length row earlier notes (digits_of line) j x

  pub come-few : x ≤ 2 * length line → 8 * (writer_of w j).at + (writer_of w j).fill ≤ 65536
  come-few h =
      omega (arith, come, most so_far.fits j jh (actions row earlier notes j) x h, room_small row so_far.fits.shared (length notes) so_far.fits.few)

module _ {row : Row} {earlier : ℕ} {line notes : List ℕ} {q : ℕ} (f s : ℕ) {buffer : List ℕ} {w : Writers}
    (so_far : Handing row earlier line notes q (f * columns row + s * wide row) buffer w) (hf : f < length notes) (hs : s < row.sets) {p preceding note : ℕ}
    (ep : p ≡ f * row.digits + s * row.set) (eb : preceding ≡ get_or (earlier ∷ notes) f 0) (en : note ≡ get_or notes f 0) where
  abbrev ds : List ℕ
  ds = digits_of line

  -- what the set hands out, by the frame's own note and the preceding one
  next : (j : ℕ) → j < 4
      → taken_to row earlier notes ds j (f * columns row + (s + 1) * wide row) ≡ taken_to row earlier notes ds j (f * columns row + s * wide row) ++ set_digits row ds p s (acts_by row preceding note) j
  next j jh = rw (ep, eb, en) (taken-set row earlier notes ds j so_far.fits.shared jh f s hs)

  many : (j : ℕ) → j < 4 → before row (actions row earlier notes j) j (f * columns row + s * wide row) + length (set_digits row ds p s (acts_by row preceding note) j) ≤ 8 * q
  many j jh =
      let x = f * columns row + s * wide row in
      let y = f * columns row + (s + 1) * wide row in
      let more = ap length (next j jh) ∙ length-append (taken_to row earlier notes ds j x) (set_digits row ds p s (acts_by row preceding note) j) in
      let fits = so_far.fits in
      let last = most fits j jh (actions row earlier notes j) y (set-end fits f s hf hs) in
      omega (arith, more, taken-length row earlier notes ds j x, taken-length row earlier notes ds j y, last, fits.room)

  pub set-roomy : Roomy q (λ (j : ℕ). length (set_digits row ds p s (acts_by row preceding note) j)) w
  set-roomy j jh = record { ready = (so_far.within j jh).ready; room = omega (arith, come so_far j jh, many j jh) }

  pub handing-set : {new : List ℕ} {r : Writers} → Grown q buffer new w r (set_digits row ds p s (acts_by row preceding note)) → length new ≡ length buffer
      → Handing row earlier line notes q (f * columns row + (s + 1) * wide row) new r
  handing-set grown kept =
      record {
        fits = so_far.fits;
        size = kept ∙ so_far.size;
        within = λ j jh. record { ready = (grown.moved j jh).ready; room = omega (arith, (grown.moved j jh).place, come so_far j jh, many j jh) };
        out = λ j jh. grown.out j jh ∙ ap (λ (l : List ℕ). l ++ set_digits row ds p s (acts_by row preceding note) j) (so_far.out j jh) ∙ sym (next j jh);
      }
