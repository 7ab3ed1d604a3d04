-- What a call that is not refused may rely on, and what its walk makes of the line.
use mathlib.Core.Path.{◌≡◌, refl, sym, ◌∙◌, ap}
use mathlib.Core.Bool.{Bool, cond, true, false, ◌||◌, true≢false}
use mathlib.Core.List.{List}
use Prim.Native.Nat.{ℕ, ◌*◌, ◌≤◌, ◌<◌}
use native.Mathlib.Omega.{arith}
use native.Mathlib.Decide.{ℕ_discrete}
use lib.Dec.{eqb, ltb}
use lib.ListN.{length}
use borrow.Author.Tests.{eq-eqb, ltb-false}
use Rattle.digits.specs.Digits.{digits_of, tab}
use Rattle.digits.proofs.Laws.{bytes-of-digits, digits-length, tab-of}
use Rattle.table.specs.declared.Row.{Row}
use Rattle.levels.specs.Table.{Shared}
use Rattle.levels.specs.Sizes.{frames_of, frames_refusal, Fits}
use Rattle.levels.specs.Order.{actions, count_of}
use Rattle.levels.specs.Faults.{bad_earlier}
use Rattle.levels.proofs.Counts.{count-of}
use Rattle.levels.proofs.Judged.{unrefused, neither-refused, framed}
use Rattle.swap.specs.Swap.{bad_tributary, bad_room, number_of, swapped_digit, swapped_line}
use Rattle.swap.specs.Filling.{Filled}

neither : (a b : Bool) → a || b ≡ false → (a ≡ false) × (b ≡ false)
neither true b e = absurd (true≢false e)
neither false b e = (refl, e)

module _ (row : Row) (earlier tributary line notes buffer : ℕ) (none : number_of row earlier tributary line notes buffer ≡ 0) where
  -- every test was passed
  pub passed : (bad_tributary tributary ≡ false) × (frames_refusal row line notes ≡ 0) × (bad_room row line buffer ≡ false) × (bad_earlier row earlier ≡ false)
  unfolding number_of
  passed =
      let twelve = unrefused (bad_tributary tributary) 12 _ (λ z. omega arith) none in
      let frames = neither-refused (frames_refusal row line notes) (cond (bad_room row line buffer) 4 (cond (bad_earlier row earlier) 5 0)) twelve.1 in
      let four = unrefused (bad_room row line buffer) 4 _ (λ z. omega arith) frames.1 in
      let five = unrefused (bad_earlier row earlier) 5 0 (λ z. omega arith) four.1 in
      (twelve.0, frames.0, four.0, five.0)

  pub one-of-four : (0 < tributary) × (tributary ≤ 4)
  one-of-four =
      let both = neither (eqb tributary 0) (ltb 4 tributary) passed.0 in
      (elim (ℕ_discrete tributary 0) [ yes z ↦ absurd (true≢false (sym (eq-eqb tributary 0 z) ∙ both.0)) | no n ↦ omega arith ], ltb-false 4 tributary both.1)

  -- so the line fits its notes and the buffer
  pub fits : Shared row → Fits row line notes buffer
  fits sh =
      let ok = framed row line notes passed.1 in
      record {
        shared = sh;
        whole = ok.frames ∙ ap (λ (F : ℕ). F * row.bytes) (sym ok.noted);
        few = rw ok.noted ok.few;
        room = rw ok.noted (ltb-false (8 * buffer) (frames_of row line * row.room) passed.2);
      }

-- the line that the walk leaves, and the digits that it took
module _ (row : Row) (earlier : ℕ) (notes buffer : List ℕ) (j count : ℕ) (old new : List ℕ) (f : Filled row earlier notes (digits_of buffer) j count old new) where
  pub line_left : new ≡ swapped_line row earlier notes j buffer old
  line_left =
      let digits = swapped_digit row earlier notes j (digits_of buffer) (digits_of old) in
      let all : digits_of new ≡ tab (8 * length old) 0 digits = tab-of (digits_of new) (8 * length old) digits (digits-length new ∙ ap (λ (n : ℕ). 8 * n) f.kept) f.digits in
      sym (bytes-of-digits new f.bytes) ∙ rw (f.kept, all)

  pub digits-taken : j < 4 → Fits row (length old) (length notes) (length buffer) → count ≡ count_of row (actions row earlier notes j) (length notes)
  digits-taken jh fits = f.counted ∙ count-of row fits.shared j jh (actions row earlier notes j) (length notes) (length old) fits.whole
