-- What the writer judges: the ways it can go on a level's row, and what is known of line and label where nothing was refused.
use mathlib.Core.Path.{◌≡◌, refl, sym}
use mathlib.Core.Logic.{◌≢◌}
use mathlib.Core.Bool.{Bool, true, false, ◌&&◌, true≢false}
use mathlib.Core.List.{List}
use Prim.Native.Nat.{ℕ, ◌≤◌, ◌<◌}
use native.Mathlib.Omega.{arith}
use native.Mathlib.Nat.{mul-le-mul, div-add-mod'}
use lib.Dec.{ltb}
use lib.ListN.{length}
use borrow.Author.Tests.{ltb-false, le-ltb, eq-eqb, ne_eqb}
use Rattle.table.specs.declared.Row.{Row}
use Rattle.levels.specs.Table.{Shared}
use Rattle.levels.specs.Sizes.{frames_of, bad_line}
use Rattle.levels.proofs.Judged.{line-frames, unrefused}
use Rattle.captures.specs.Captures.{file_of, filed, write_refusal, unwritten, written_on, left_on}

-- a line of at most 64 frames has fewer than 65,536 bytes
pub short-enough : (row : Row) → Shared row → (line : ℕ) → bad_line row line ≡ false → line < 65536
short-enough row sh line e =
    let whole = line-frames row line e in
    omega (
      arith,
      div-add-mod' line row.bytes,
      whole.0,
      mul-le-mul {n₁ = frames_of row line} {m₁ = row.bytes} {n₂ = 64} {m₂ = 366} whole.1 (omega (arith, sh.packed, sh.short)),
    )

-- ---- the ways of the writer on a level's row

module _ (row : Row) (level : ℕ) (line label : List ℕ) (labelled : Bool) (file : List ℕ) where
  abbrev refusal : ℕ
  refusal = write_refusal row level line label labelled (length file)

  pub refused-on : refusal ≢ 0 → (unwritten refusal ≡ written_on row level line label labelled (length file)) × (file ≡ left_on row level line label labelled file)
  refused-on n = rw (ne_eqb refusal 0 n) (refl, refl)

  pub written_on_lem : refusal ≡ 0 → (left : List ℕ) → left ≡ filed (file_of level line label labelled) file
      → (record { refusal = 0; bytes = length (file_of level line label labelled); byte = 0 } ≡ written_on row level line label labelled (length file))
      × (left ≡ left_on row level line label labelled file)
  written_on_lem z left is = rw (eq-eqb refusal 0 z) (refl, is)

  -- what is known where nothing was refused
  pub record Judged : Type 0 where
    pub line_good : bad_line row (length line) ≡ false
    pub label_short : labelled && ltb 32 (length label) ≡ false
    pub room : length (file_of level line label labelled) ≤ length file

  pub judged-good : refusal ≡ 0 → Judged
  unfolding write_refusal
  judged-good e =
      let two = unrefused (bad_line row (length line)) 2 _ (λ z. omega arith) e in
      let nine = unrefused (labelled && ltb 32 (length label)) 9 _ (λ z. omega arith) two.1 in
      let four = unrefused (ltb (length file) (length (file_of level line label labelled))) 4 0 (λ z. omega arith) nine.1 in
      record { line_good = two.0; label_short = nine.0; room = ltb-false (length file) (length (file_of level line label labelled)) four.0 }

-- a label that is there has at most 32 bytes where it is not refused
pub short-label : (labelled : Bool) (label : List ℕ) → labelled && ltb 32 (length label) ≡ false → labelled ≡ true → length label ≤ 32
short-label true label e t = ltb-false 32 (length label) e
short-label false label e t = absurd (true≢false (sym t))

-- and nothing is refused where the line is good, the label short and the buffer has room
pub unrefused-so : (row : Row) (level : ℕ) (line label : List ℕ) (labelled : Bool) (room : ℕ) → bad_line row (length line) ≡ false
    → labelled && ltb 32 (length label) ≡ false → length (file_of level line label labelled) ≤ room → write_refusal row level line label labelled room ≡ 0
unfolding write_refusal
unrefused-so row level line label labelled room good short h = rw (good, short, le-ltb room (length (file_of level line label labelled)) h) refl
