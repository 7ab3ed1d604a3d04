-- Of the notes, and of the vote before them, a swap looks at bit j−1 alone: two accepted swaps that agree in it leave the same line and answer the same.
use Rattle.std.specs.Prelude.{Some}
use mathlib.Core.Path.{◌≡◌, refl, sym, ◌∙◌, ap}
use mathlib.Core.Bool.{Bool, cond, true, false, ◌&&◌}
use mathlib.Core.List.{List}
use Prim.Native.Nat.{ℕ, ◌*◌, ◌-◌, ◌%◌, ◌<◌}
use native.Mathlib.Omega.{arith}
use lib.Dec.{eqb}
use lib.ListN.{length, get_or}
use borrow.Author.Tests.{eqb-true}
use Rattle.digits.specs.Digits.{digits_of}
use Rattle.table.specs.declared.Row.{Row}
use Rattle.table.specs.Table.{level_of}
use Rattle.levels.specs.Places.{kind_at, is_own}
use Rattle.levels.specs.Order.{actions, count_of}
use Rattle.levels.proofs.Rows.{shared-row}
use Rattle.levels.specs.Line.{line_digit}
use Rattle.promises.specs.Extraction.{SameBit}
use Rattle.promises.proofs.Order.{count_same, actions-same}
use Rattle.swap.specs.Swap.{Swapped}
use Rattle.swap.specs.Swap.{swapped_digit}
use Rattle.swap_promises.specs.Swapping.{Swap, SwapAccepted, from0, SameToSwap, SwapsSame}
use Rattle.swap_promises.proofs.Places.{same_bytes, swap-level, swap_places, swap_line_lem, swap_answer}
use Rattle.swap_promises.proofs.NewFour.{own-digit}

module _ (level : ℕ) (row : Row) (e : level_of level ≡ Some row) (line : List ℕ) (j : ℕ) (buffer : List ℕ) (x y : ℕ) (m n : List ℕ) (bits : SameBit j x y m n) where
  -- what the frames do for the tributary
  acts-same : count_of row (actions row x m j) (length m) ≡ count_of row (actions row y n j) (length n)
  acts-same =
      count_same row (actions row x m j) (actions row y n j) (length m) (actions-same row x y m n j (length m) bits.before bits.bit)
      ∙ ap (λ (F : ℕ). count_of row (actions row y n j) F) bits.frames

  place_same : 8 * length line ≡ length m * row.digits → (p : ℕ) → p < 8 * length line
      → swapped_digit row x m j (digits_of buffer) (digits_of line) p ≡ swapped_digit row y n j (digits_of buffer) (digits_of line) p
  place_same places p h = go (eqb (p % 4) j) (is_own (kind_at row p)) refl refl
    where
      go : (t o : Bool) → eqb (p % 4) j ≡ t → is_own (kind_at row p) ≡ o
          → cond (t && o) (line_digit row x m (λ (k : ℕ). digits_of buffer) p) (get_or (digits_of line) p 0)
          ≡ cond (t && o) (line_digit row y n (λ (k : ℕ). digits_of buffer) p) (get_or (digits_of line) p 0)
      go true true et eo =
          let w = eqb-true (p % 4) j et in
          own-digit row (shared-row level row e) x y m n (λ (k : ℕ). digits_of buffer) (λ (k : ℕ). digits_of buffer) p (omega (arith, places)) eo (rw w bits) (λ i h. refl)
      go true false et eo = refl
      go false o et eo = refl

abbrev answers : ℕ → Swapped
answers n = record { refusal = 0; digits = n }

pub own-bit : (level : ℕ) (line : List ℕ) (a b : Swap) → SwapAccepted level line a → SwapAccepted level line b → SameToSwap a b → SwapsSame level line a b
own-bit level line a b ok-a ok-b same = go (swap-level level line a ok-a)
  where
    j : from0 b ≡ from0 a
    j = ap (λ (k : ℕ). k - 1) (sym same.tributary)

    go : ((row : Row) × (level_of level ≡ Some row)) → SwapsSame level line a b
    go (row, e) =
        record {
          left = swap_line_lem level row e line a ok-a
              ∙ same_bytes (length line) _ _
              (place_same level row e line (from0 a) a.buffer a.earlier b.earlier a.notes b.notes same.bits (swap_places level row e line a ok-a))
              ∙ sym (swap_line_lem level row e line b ok-b ∙ rw (j, sym same.buffer));
          answer = swap_answer level row e line a ok-a
              ∙ ap answers
              (acts-same level row e line (from0 a) a.buffer a.earlier b.earlier a.notes b.notes same.bits)
              ∙ sym (swap_answer level row e line b ok-b ∙ rw j);
        }
