-- "and touches no other digit"; "Swapping two different tributaries gives the same line in either order; for one twice the last call stands."
use Rattle.std.specs.Prelude.{Option, Some, None}
use mathlib.Core.Path.{◌≡◌, refl, sym, ◌∙◌, ap}
use mathlib.Core.Logic.{◌≢◌}
use mathlib.Core.Bool.{Bool, cond, true, false, ◌&&◌}
use mathlib.Core.List.{List}
use Prim.Native.Nat.{ℕ, ◌*◌, ◌-◌, ◌%◌, ◌<◌}
use native.Mathlib.Omega.{arith}
use lib.Dec.{eqb}
use lib.ListN.{length}
use borrow.Author.Tests.{eq-eqb, eqb-true}
use Rattle.digits.specs.Digits.{digits_of}
use Rattle.digits.proofs.Laws.{digits-length}
use Rattle.table.specs.declared.Row.{Row}
use Rattle.table.specs.Table.{level_of}
use Rattle.levels.specs.Sizes.{on_level}
use Rattle.levels.specs.Places.{kind_at, is_own}
use Rattle.swap.specs.Swap.{swapped_digit, swapped_line, line_on}
use Rattle.swap.proofs.Accepted.{one-of-four}
use Rattle.swap_promises.specs.Swapping.{Swap, SwapAccepted, swap_line, from0, OthersStay}
use Rattle.swap_promises.proofs.Places.{swapped-length, swapped_at, other_at, one_line, swap-level, number_at, no_number, swap_line_lem}

-- every other digit stays
pub others-stay : (level : ℕ) (line : List ℕ) (s : Swap) → SwapAccepted level line s → OthersStay level line s
others-stay level line s ok =
    let on = swap-level level line s ok in
    let row = on.0 in
    let left = swap_line_lem level row on.1 line s ok in
    record {
      size = ap length left ∙ swapped-length row s.earlier s.notes (from0 s) s.buffer line;
      digits = rw (left, on.1) (λ p h o. sym (other_at row s.earlier s.notes (from0 s) s.buffer line p (omega (arith, digits-length line)) o));
    }

-- a swap on a row
abbrev on_row : Row → List ℕ → Swap → List ℕ
on_row row line s = line_on row s.earlier s.tributary line s.notes s.buffer

abbrev new : Row → Swap → List ℕ → List ℕ
new row s line = swapped_line row s.earlier s.notes (from0 s) s.buffer line

abbrev new_digit : Row → Swap → List ℕ → ℕ → ℕ
new_digit row s line = swapped_digit row s.earlier s.notes (from0 s) (digits_of s.buffer) (digits_of line)

on-length : (row : Row) (line : List ℕ) (s : Swap) → length (on_row row line s) ≡ length line
on-length row line s = go (eqb (number_at row (length line) s) 0)
  where
    go : (t : Bool) → length (cond t (new row s line) line) ≡ length line
    go true = swapped-length row s.earlier s.notes (from0 s) s.buffer line
    go false = refl

-- a swap after another is judged as it would be without it: by the line's length
on-again : (row : Row) (line : List ℕ) (a b : Swap) → on_row row (on_row row line a) b ≡ cond (eqb (number_at row (length line) b) 0) (new row b (on_row row line a)) (on_row row line a)
on-again row line a b = ap (λ (n : ℕ). cond (eqb (number_at row n b) 0) (new row b (on_row row line a)) (on_row row line a)) (on-length row line a)

-- the digit at place p after two swaps
module _ (row : Row) (line : List ℕ) (a b : Swap) (p : ℕ) (h : p < 8 * length line) where
  abbrev second : Bool
  second = eqb (p % 4) (from0 b) && is_own (kind_at row p)

  -- of two different tributaries one writes at most
  twice-apart : from0 a ≢ from0 b → new_digit row b (new row a line) p ≡ new_digit row a (new row b line) p
  twice-apart other =
      rw (swapped_at row a.earlier a.notes (from0 a) a.buffer line p h, swapped_at row b.earlier b.notes (from0 b) b.buffer line p h)
      (go (eqb (p % 4) (from0 a)) (eqb (p % 4) (from0 b)) (is_own (kind_at row p)) _ _ _ (λ x y. other (sym (eqb-true (p % 4) (from0 a) x) ∙ eqb-true (p % 4) (from0 b) y)))
    where
      go : (t u o : Bool) (x y z : ℕ) → (t ≡ true → u ≡ true → ⊥) → cond (u && o) x (cond (t && o) y z) ≡ cond (t && o) y (cond (u && o) x z)
      go true true o x y z n = absurd (n refl refl)
      go true false o x y z n = refl
      go false u o x y z n = refl

  -- one twice
  twice_same : from0 a ≡ from0 b → new_digit row b (new row a line) p ≡ new_digit row b line p
  twice_same same =
      rw (swapped_at row a.earlier a.notes (from0 a) a.buffer line p h, same) (go second _ _ _)
    where
      go : (t : Bool) (x y z : ℕ) → cond t x (cond t y z) ≡ cond t x z
      go true x y z = refl
      go false x y z = refl

module _ (row : Row) (line : List ℕ) (a b : Swap) where
  lines-apart : from0 a ≢ from0 b → new row b (new row a line) ≡ new row a (new row b line)
  lines-apart other =
      one_line row b.earlier a.earlier b.notes a.notes (from0 b) (from0 a) b.buffer a.buffer line (new_digit row a (new row b line)) (λ p h. twice-apart row line a b p h other)
      ∙ sym (one_line row a.earlier b.earlier a.notes b.notes (from0 a) (from0 b) a.buffer b.buffer line (new_digit row a (new row b line)) (λ p h. refl))

  lines_same : from0 a ≡ from0 b → new row b (new row a line) ≡ new row b line
  lines_same same =
      one_line row b.earlier a.earlier b.notes a.notes (from0 b) (from0 a) b.buffer a.buffer line (new_digit row b line) (λ p h. twice_same row line a b p h same)

  -- different tributaries of which both are 1 to 4 are different from 0 on
  from0-apart : number_at row (length line) a ≡ 0 → number_at row (length line) b ≡ 0 → a.tributary ≢ b.tributary → from0 a ≢ from0 b
  from0-apart za zb other e =
      let one = one-of-four row a.earlier a.tributary (length line) (length a.notes) (length a.buffer) za in
      let two = one-of-four row b.earlier b.tributary (length line) (length b.notes) (length b.buffer) zb in
      other (omega (arith, one.0, two.0))

  order-on : a.tributary ≢ b.tributary → on_row row (on_row row line a) b ≡ on_row row (on_row row line b) a
  order-on other =
      on-again row line a b ∙ go (eqb (number_at row (length line) a) 0) (eqb (number_at row (length line) b) 0) refl refl ∙ sym (on-again row line b a)
    where
      go : (t u : Bool) → eqb (number_at row (length line) a) 0 ≡ t → eqb (number_at row (length line) b) 0 ≡ u
          → cond u (new row b (cond t (new row a line) line)) (cond t (new row a line) line) ≡ cond t (new row a (cond u (new row b line) line)) (cond u (new row b line) line)
      go true true x y = lines-apart (from0-apart (eqb-true (number_at row (length line) a) 0 x) (eqb-true (number_at row (length line) b) 0 y) other)
      go true false x y = refl
      go false true x y = refl
      go false false x y = refl

-- two different tributaries in either order, refused or not
pub either_order : (level : ℕ) (line : List ℕ) (a b : Swap) → a.tributary ≢ b.tributary → swap_line level (swap_line level line a) b ≡ swap_line level (swap_line level line b) a
either_order level line a b other = go (level_of level)
  where
    go : (l : Option Row) → on_level l (λ (row : Row). on_row row (on_level l (λ (row : Row). on_row row line a) line) b) (on_level l (λ (row : Row). on_row row line a) line)
        ≡ on_level l (λ (row : Row). on_row row (on_level l (λ (row : Row). on_row row line b) line) a) (on_level l (λ (row : Row). on_row row line b) line)
    go (Some row) = order-on row line a b other
    go None = refl

-- one tributary twice: the last call stands, where it was accepted, and it is accepted after the first as without it
pub last-stands : (level : ℕ) (line : List ℕ) (a b : Swap) → SwapAccepted level line b → a.tributary ≡ b.tributary
    → SwapAccepted level (swap_line level line a) b × (swap_line level (swap_line level line a) b ≡ swap_line level line b)
last-stands level line a b ok same = go (swap-level level line b ok)
  where
    go : ((row : Row) × (level_of level ≡ Some row)) → SwapAccepted level (swap_line level line a) b × (swap_line level (swap_line level line a) b ≡ swap_line level line b)
    go (row, e) =
        let none = eq-eqb (number_at row (length line) b) 0 (no_number level row e line b ok) in
        (rw (e, on-length row line a, none), rw e (on-again row line a b ∙ rw none (by_first (eqb (number_at row (length line) a) 0))))
      where
        by_first : (t : Bool) → new row b (cond t (new row a line) line) ≡ new row b line
        by_first true = lines_same row line a b (ap (λ (n : ℕ). n - 1) same)
        by_first false = refl
