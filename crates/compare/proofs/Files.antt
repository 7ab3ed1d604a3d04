-- Two files and their lines: where a reading's line stands in its file, what two readings that fit each other have in common, and what is
-- answered of their lines as they are lent.
use Rattle.std.specs.Prelude.{Option, Some, None}
use mathlib.Core.Path.{◌≡◌, refl, sym, ◌∙◌, ap}
use mathlib.Core.Bool.{Bool, cond, true, false}
use mathlib.Core.List.{List}
use Prim.Native.Nat.{ℕ, ◌+◌, ◌-◌, ◌*◌, ◌≤◌, ◌<◌}
use native.Mathlib.Omega.{arith}
use native.Mathlib.Nat.{div-add-mod'}
use lib.Dec.{eqb}
use lib.ListN.{length, take, drop, length-drop}
use lib.Seq.{length-take-le}
use borrow.Author.Tests.{eqb-true, eqb-false}
use Rattle.digits.proofs.Tests.{cond-told}
use Rattle.table.specs.declared.Row.{Row}
use Rattle.table.specs.Table.{level_of}
use Rattle.levels.specs.Table.{Shared}
use Rattle.levels.specs.Sizes.{on_level, frames_of, bad_line}
use Rattle.levels.proofs.Judged.{line-frames}
use Rattle.levels.proofs.Choice.{cond-by}
use Rattle.captures.specs.declared.Part.{Part}
use Rattle.captures.specs.declared.Reading.{Reading}
use Rattle.captures.specs.Captures.{end_at, part_at, field_at, unread, after_line, fields_of, read_of, bytes_in}
use Rattle.captures.proofs.Walking.{stands}
use Rattle.differing.specs.declared.Compared.{Compared}
use Rattle.differing.specs.Differing.{counted_on, listed_on}
use Rattle.differing.specs.Counting.{Lines}
use Rattle.compare.specs.Compare.{line_of, fault_in, fault_of}

-- ---- where the line of a reading stands

pub record Within (file : List ℕ) (part : Part) : Type 0 where
  pub inside : part.start + part.bytes ≤ length file
  pub short : part.bytes < 65536

-- a line of whole frames
abbrev Whole : Row → Reading → Type 0
Whole row r = r.line.bytes ≡ frames_of row r.line.bytes * row.bytes

module _ (file : List ℕ) where
  abbrev In : Reading → Type 0
  In r = Within file r.line

  unread-in : (refusal byte : ℕ) → In (unread refusal byte)
  unread-in refusal byte = record { inside = omega arith; short = omega arith }

  found_in : field_at file 4 2 0 65535 ≡ true → Within file (part_at file 4)
  found_in e = let s = stands file 4 2 0 65535 e in record { inside = omega (arith, s.inside); short = omega (arith, s.not_over) }

  fields_in : In (fields_of file)
  unfolding fields_of after_line
  fields_in =
      let p = end_at file 4 in
      cond-by In (field_at file 0 1 1 1)
      (cond-told In (field_at file 4 2 0 65535)
      (λ e.
      cond-by In (eqb p (length file)) (found_in e)
      (cond-by In (field_at file p 3 0 32) (cond-by In (eqb (end_at file p) (length file)) (found_in e) (unread-in 9 (end_at file p))) (unread-in 9 p)))
      (λ _. unread-in 9 4))
      (unread-in 9 0)

  judged-in : (l : Option Row) → In (on_level l (λ (row : Row). cond (bad_line row (fields_of file).line.bytes) (unread 2 0) (fields_of file)) (unread 1 0))
  judged-in (Some row) = cond-by In (bad_line row (fields_of file).line.bytes) (unread-in 2 0) fields_in
  judged-in None = unread-in 1 0

  -- any reading's line lies in its file: one that is refused has none
  pub line-within : Within file (read_of file).line
  line-within = cond-by In (eqb (fields_of file).refusal 0) (judged-in (level_of (fields_of file).level)) fields_in

  -- and that of one that is not refused is whole frames of its level
  pub line_whole : (row : Row) → (read_of file).refusal ≡ 0 → level_of (read_of file).level ≡ Some row
      → (read_of file).line.bytes ≡ frames_of row (read_of file).line.bytes * row.bytes
  line_whole row good has = by-fields (eqb (fields_of file).refusal 0) refl
    where
      no_level : ◌≡◌ {A = ℕ} 1 0 → ⊥
      no_level e = omega arith

      two : ◌≡◌ {A = ℕ} 2 0 → ⊥
      two e = omega arith

      framed : bad_line row (fields_of file).line.bytes ≡ false → Whole row (fields_of file)
      framed e =
          let n = (fields_of file).line.bytes in
          omega (arith, div-add-mod' n row.bytes, (line-frames row n e).0)

      by-line : (r : Row) (t : Bool) → bad_line r (fields_of file).line.bytes ≡ t → (cond t (unread 2 0) (fields_of file)).refusal ≡ 0
          → level_of (cond t (unread 2 0) (fields_of file)).level ≡ Some row → level_of (fields_of file).level ≡ Some r → Whole row (cond t (unread 2 0) (fields_of file))
      by-line r true x g h l = absurd (two g)
      by-line r false x g h l =
          let same : Some r ≡ Some row = sym l ∙ h in
          let is_row : r ≡ row = ap (λ (v : Option Row). on_level v (λ (q : Row). q) r) same in
          framed (rw is_row at x)

      by_level : (v : Option Row) → level_of (fields_of file).level ≡ v
          → (on_level v (λ (r : Row). cond (bad_line r (fields_of file).line.bytes) (unread 2 0) (fields_of file)) (unread 1 0)).refusal ≡ 0
          → level_of (on_level v (λ (r : Row). cond (bad_line r (fields_of file).line.bytes) (unread 2 0) (fields_of file)) (unread 1 0)).level ≡ Some row
          → Whole row (on_level v (λ (r : Row). cond (bad_line r (fields_of file).line.bytes) (unread 2 0) (fields_of file)) (unread 1 0))
      by_level (Some r) l g h = by-line r (bad_line r (fields_of file).line.bytes) refl g h l
      by_level None l g h = absurd (no_level g)

      by-fields : (t : Bool) → eqb (fields_of file).refusal 0 ≡ t → Whole row (read_of file)
      by-fields true x = rw x (by_level (level_of (fields_of file).level) refl (rw x at good) (rw x at has))
      by-fields false x = absurd (eqb-false (fields_of file).refusal 0 x (rw x at good))

  pub line-length : length (line_of file) ≡ (read_of file).line.bytes
  line-length =
      let part = (read_of file).line in
      length-take-le part.bytes (drop part.start file) (omega (arith, length-drop part.start file, line-within.inside))

-- ---- two readings that fit each other

pub record Fitting (one other : Reading) : Type 0 where
  pub one_good : one.refusal ≡ 0
  pub other_good : other.refusal ≡ 0
  pub same_level : one.level ≡ other.level
  pub same_bytes : one.line.bytes ≡ other.line.bytes

pub fitting : (one other : Reading) → (fault_of one other).refusal ≡ 0 → Fitting one other
unfolding fault_of
fitting one other =
    go (eqb one.refusal 0) (eqb other.refusal 0) (eqb one.level other.level) (eqb one.line.bytes other.line.bytes) refl refl refl refl
  where
    two : ◌≡◌ {A = ℕ} 2 0 → ⊥
    two e = omega arith

    unequal : ◌≡◌ {A = ℕ} 1 0 → ⊥
    unequal e = omega arith

    go : (a b c d : Bool) → eqb one.refusal 0 ≡ a → eqb other.refusal 0 ≡ b → eqb one.level other.level ≡ c
        → eqb one.line.bytes other.line.bytes ≡ d
        → (cond a
        (cond b (cond c (cond d (fault_in 0 0 0) (fault_in 2 0 0)) (fault_in 1 0 0)) (fault_in other.refusal 2 other.byte))
        (fault_in one.refusal 1 one.byte)).refusal ≡ 0
        → Fitting one other
    go true true true true x y z w e =
        record { one_good = eqb-true _ _ x; other_good = eqb-true _ _ y; same_level = eqb-true _ _ z; same_bytes = eqb-true _ _ w }
    go true true true false x y z w e = absurd (two e)
    go true true false d x y z w e = absurd (unequal e)
    go true false c d x y z w e = absurd (eqb-false other.refusal 0 y e)
    go false b c d x y z w e = absurd (eqb-false one.refusal 0 x e)

-- ---- their lines as they are lent

-- a part as it is lent, from its start to its end
abbrev pub lent : List ℕ → Part → List ℕ
lent file part = take (part.start + part.bytes - part.start) (drop part.start file)

pub lent_is : (file : List ℕ) (part : Part) → lent file part ≡ bytes_in file part
lent_is file part = let e : part.start + part.bytes - part.start ≡ part.bytes = omega arith in rw e refl

pub lent-lines : (row : Row) → Shared row → (one other : List ℕ) (first second : Part) → first.start + first.bytes ≤ length one
    → second.start + second.bytes ≤ length other → first.bytes ≡ second.bytes → first.bytes < 65536 → first.bytes ≡ frames_of row first.bytes * row.bytes
    → Lines row (lent one first) (lent other second)
lent-lines row sh one other first second a b same short whole =
    rw (lent_is one first, lent_is other second)
    (record { shared = sh; same_length = omega (arith, x, y); short = omega (arith, x); whole = rw x whole })
  where
    x : length (bytes_in one first) ≡ first.bytes
    x = length-take-le first.bytes (drop first.start one) (omega (arith, length-drop first.start one))

    y : length (bytes_in other second) ≡ second.bytes
    y = length-take-le second.bytes (drop second.start other) (omega (arith, length-drop second.start other))

-- what is answered of the parts of two files as they are lent is what is answered of their bytes
pub of_parts : (row : Row) (one other : List ℕ) (first second : Part) (a : Compared) (l : List ℕ)
    → (a ≡ counted_on row (lent one first) (lent other second)) × (l ≡ listed_on row (lent one first) (lent other second))
    → (a ≡ counted_on row (bytes_in one first) (bytes_in other second)) × (l ≡ listed_on row (bytes_in one first) (bytes_in other second))
of_parts row one other first second a l e = rw (lent_is one first, lent_is other second) at e
