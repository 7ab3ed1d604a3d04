-- A column of the alignment word, four digits of it at once: each place has its own digit of the word, and none carries a digit.
use mathlib.Core.Path.{◌≡◌, refl, ◌∙◌, ap}
use mathlib.Core.List.{List}
use Prim.Native.Nat.{ℕ, ◌+◌, ◌-◌, ◌/◌, ◌%◌, ◌^◌, ◌≤◌, ◌<◌}
use native.Mathlib.Omega.{arith}
use lib.ListN.{get_or}
use lib.Pow.{shr-shr}
use lib.Bits.{bit_and, and_mask}
use borrow.Author.Tests.{lt-ltb}
use Rattle.digits.specs.Digits.{written}
use Rattle.digits.proofs.Laws.{tab-of}
use Rattle.digits.proofs.Written.{written-length, written-digit, low_digit}
use Rattle.table.specs.declared.Row.{Row}
use Rattle.levels.specs.declared.order.Action.{Action}
use Rattle.levels.specs.declared.places.Kind.TheVariants.{Word}
use Rattle.levels.specs.Table.{Shared}
use Rattle.levels.specs.Places.{kind_of}
use Rattle.levels.specs.Word.{word_digit}
use Rattle.levels.proofs.Ways.{kind-word}
use Rattle.heads.specs.Columns.{PlacedTo}

module _ (row : Row) (sh : Shared row) (r : ℕ) (inside : r + 4 ≤ row.len) where
  abbrev column : ℕ
  column = bit_and (row.word / 2 ^ (row.len - (r + 4))) 15

  masked : column ≡ row.word / 2 ^ (row.len - (r + 4)) % 2 ^ 4
  masked = and_mask (row.word / 2 ^ (row.len - (r + 4))) 4

  -- digit i of the column is the word's
  own-digit : (i : ℕ) → i < 4 → get_or (written 4 column) i 0 ≡ word_digit row (r + i)
  own-digit i h =
      let m = 3 - i in
      let s = row.len - (r + 4) in
      let there : s + m ≡ row.len - 1 - (r + i) = omega arith in
      written-digit 4 column i m (omega arith)
      ∙ ap (λ (n : ℕ). n / 2 ^ m % 2) masked
      ∙ low_digit 4 m (row.word / 2 ^ s) (omega arith)
      ∙ ap (λ (n : ℕ). n % 2) (shr-shr row.word s m)
      ∙ ap (λ (n : ℕ). row.word / 2 ^ n % 2) there

  is_word : (i : ℕ) → i < 4 → kind_of row 0 (r + i) ≡ Word
  is_word i h = kind-word row sh (r + i) (omega arith)

  pub placed-word : (note : ℕ) (acts : ℕ → Action) (buffer next : List ℕ) → PlacedTo row note acts 0 r buffer next 4 column next
  placed-word note acts buffer next =
      record {
        few = omega (arith, masked);
        digits = tab-of (written 4 column) 4 _ (written-length 4 column) (λ i h. own-digit i h ∙ rw (is_word i h));
        index = λ j h. rw (lt-ltb j 4 h, is_word j h) (omega arith);
        kept = refl;
      }
