-- The swapped line, place by place, over the row; what an accepted swap is; every other digit stays; two tributaries in either order; one twice.
use Rattle.std.specs.Prelude.{Some}
use mathlib.Core.Path.{◌≡◌, refl, sym, ◌∙◌, ap}
use mathlib.Core.Bool.{false, ◌&&◌}
use mathlib.Core.List.{List}
use Prim.Native.Nat.{ℕ, ◌*◌, ◌%◌, ◌<◌}
use native.Mathlib.Omega.{arith}
use native.Mathlib.Nat.{zero-add, mul_left_comm}
use lib.Dec.{eqb}
use lib.ListN.{length, get_or}
use borrow.Author.Tests.{eq-eqb}
use Rattle.digits.specs.Digits.{digits_of, bytes_of, tab}
use Rattle.digits.proofs.Laws.{digits-binary, digits-of-bytes, bytes-length, tab-length, tab-at, tab-of, tab-binary}
use Rattle.table.specs.declared.Row.{Row}
use Rattle.table.specs.Table.{level_of}
use Rattle.levels.specs.Sizes.{frames_of, Fits}
use Rattle.levels.specs.Places.{kind_at, is_own}
use Rattle.levels.specs.Order.{actions, count_of}
use Rattle.levels.proofs.Choice.{cond-by}
use Rattle.levels.proofs.Judged.{framed}
use Rattle.levels.proofs.Rows.{shared-row}
use Rattle.promises.proofs.RoundTrip.{line_small}
use Rattle.promises.proofs.Accepted.{some_level, zero-refusal}
use Rattle.swap.specs.Swap.{Swapped}
use Rattle.swap.specs.Swap.{number_of, swapped_digit, swapped_line, refused_with, swapped_on, swapped}
use Rattle.swap.proofs.Accepted.{passed, one-of-four, fits}
use Rattle.swap_promises.specs.Swapping.{Swap, SwapAccepted, swap_line, swap_count, from0}

-- lines with the same digit at every place are the same bytes
pub same_bytes : (n : ℕ) (f g : ℕ → ℕ) → ((p : ℕ) → p < 8 * n → f p ≡ g p) → bytes_of n (tab (8 * n) 0 f) ≡ bytes_of n (tab (8 * n) 0 g)
same_bytes n f g same =
    ap (λ (ds : List ℕ). bytes_of n ds)
    (tab-of (tab (8 * n) 0 f) (8 * n) g (tab-length (8 * n) 0 f) (λ p h. tab-at (8 * n) 0 f p h ∙ ap f (zero-add p) ∙ same p h))

module _ (row : Row) (earlier : ℕ) (notes : List ℕ) (j : ℕ) (buffer line : List ℕ) where
  abbrev digit_at : ℕ → ℕ
  digit_at = swapped_digit row earlier notes j (digits_of buffer) (digits_of line)

  abbrev left : List ℕ
  left = swapped_line row earlier notes j buffer line

  small : (p : ℕ) → digit_at p < 2
  small p =
      cond-by (λ (d : ℕ). d < 2) (eqb (p % 4) j && is_own (kind_at row p)) (line_small row earlier notes (λ (k : ℕ). digits_of buffer) (λ k h. digits-binary buffer) p)
      (digits-binary line p)

  pub swapped-length : length left ≡ length line
  swapped-length = bytes-length (length line) _

  pub swapped_at : (p : ℕ) → p < 8 * length line → get_or (digits_of left) p 0 ≡ digit_at p
  swapped_at p h =
      let n = 8 * length line in
      ap (λ (ds : List ℕ). get_or ds p 0) (digits-of-bytes (length line) (tab n 0 digit_at) (tab-binary n 0 digit_at small) (tab-length n 0 digit_at))
      ∙ tab-at n 0 digit_at p h
      ∙ ap digit_at (zero-add p)

  -- a place that is no own place of the tributary
  pub other_at : (p : ℕ) → p < 8 * length line → eqb (p % 4) j && is_own (kind_at row p) ≡ false → get_or (digits_of left) p 0 ≡ get_or (digits_of line) p 0
  other_at p h o = swapped_at p h ∙ rw o

-- a swap after a swap: the line by its places
module _ (row : Row) (x y : ℕ) (a b : List ℕ) (j k : ℕ) (s t line : List ℕ) where
  abbrev first : List ℕ
  first = swapped_line row y b k t line

  pub one_line : (g : ℕ → ℕ) → ((p : ℕ) → p < 8 * length line → swapped_digit row x a j (digits_of s) (digits_of first) p ≡ g p)
      → swapped_line row x a j s first ≡ bytes_of (length line) (tab (8 * length line) 0 g)
  one_line g same =
      rw (swapped-length row y b k t line) (same_bytes (length line) (swapped_digit row x a j (digits_of s) (digits_of first)) g same)

-- an accepted swap over its level's row
pub swap-level : (level : ℕ) (line : List ℕ) (s : Swap) → SwapAccepted level line s → (row : Row) × (level_of level ≡ Some row)
swap-level level line s ok =
    some_level (λ (r : Swapped). r.refusal ≡ 0) (level_of level) (λ (row : Row). swapped_on row s.earlier s.tributary (length line) s.notes (length s.buffer)) (refused_with 1)
    (λ e. omega arith)
    ok

-- its number, its tributary from 0
abbrev pub number_at : Row → ℕ → Swap → ℕ
number_at row line s = number_of row s.earlier s.tributary line (length s.notes) (length s.buffer)

pub tributary-small : (row : Row) (line : ℕ) (s : Swap) → number_at row line s ≡ 0 → from0 s < 4
tributary-small row line s none =
    let in_four = one-of-four row s.earlier s.tributary line (length s.notes) (length s.buffer) none in
    omega (arith, in_four.0, in_four.1)

module _ (level : ℕ) (row : Row) (e : level_of level ≡ Some row) (line : List ℕ) (s : Swap) (ok : SwapAccepted level line s) where
  abbrev acts-count : ℕ
  acts-count = count_of row (actions row s.earlier s.notes (from0 s)) (length s.notes)

  pub no_number : number_at row (length line) s ≡ 0
  no_number =
      zero-refusal (λ (r : Swapped). r.refusal) (number_at row (length line) s) (record { refusal = 0; digits = acts-count }) (refused_with (number_at row (length line) s)) refl (rw e at ok)

  pub swap-small : from0 s < 4
  swap-small = tributary-small row (length line) s no_number

  pub swap-fits : Fits row (length line) (length s.notes) (length s.buffer)
  swap-fits = fits row s.earlier s.tributary (length line) (length s.notes) (length s.buffer) no_number (shared-row level row e)

  pub swap-noted : length s.notes ≡ frames_of row (length line)
  swap-noted =
      (framed row (length line) (length s.notes) (passed row s.earlier s.tributary (length line) (length s.notes) (length s.buffer) no_number).1).noted

  pub swap_places : 8 * length line ≡ length s.notes * row.digits
  swap_places =
      ap (λ (n : ℕ). 8 * n) swap-fits.whole ∙ mul_left_comm 8 (length s.notes) row.bytes ∙ ap (λ (n : ℕ). length s.notes * n) (sym swap-fits.shared.packed)

  pub swap_line_lem : swap_line level line s ≡ swapped_line row s.earlier s.notes (from0 s) s.buffer line
  swap_line_lem = rw (e, eq-eqb (number_at row (length line) s) 0 no_number)

  pub swap_answer : swapped level s.earlier s.tributary (length line) s.notes (length s.buffer) ≡ record { refusal = 0; digits = acts-count }
  swap_answer = rw (e, eq-eqb (number_at row (length line) s) 0 no_number)

  pub swap-count : swap_count level line s ≡ count_of row (actions row s.earlier s.notes (from0 s)) (length s.notes)
  swap-count = ap (λ (r : Swapped). r.digits) swap_answer
