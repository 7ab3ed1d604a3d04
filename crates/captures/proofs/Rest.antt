-- "bytes after the file stay": of an accepted write the first so many bytes that it answers are the file, and all after them are as they were.
use Rattle.std.specs.Prelude.{Option, Some, None}
use mathlib.Core.Path.{◌≡◌, refl, sym, ◌∙◌, ap}
use mathlib.Core.Bool.{Bool, true, false}
use mathlib.Core.List.{List}
use Prim.Native.Nat.{ℕ}
use native.Mathlib.Omega.{arith}
use lib.Dec.{eqb}
use lib.ListN.{length, drop}
use lib.Seq.{drop_at, take-append_seam}
use borrow.Author.Tests.{eqb-false}
use Rattle.table.specs.declared.Row.{Row}
use Rattle.table.specs.Table.{level_of}
use Rattle.captures.specs.Captures.{Written}
use Rattle.captures.specs.Captures.{file_of, write_refusal, written_of, left_of, WriteMet}
use Rattle.captures.specs.Trips.{Stays}

pub rest-stays : (level : ℕ) (line label : List ℕ) (labelled : Bool) (file : List ℕ) (answer : Written) (left : List ℕ) → WriteMet level line label labelled file answer left
    → answer.refusal ≡ 0 → Stays (file_of level line label labelled) file left answer.bytes
rest-stays level line label labelled file answer left met ok =
    rw (met.0, met.1) (go (level_of level) refl (sym (ap (λ (a : Written). a.refusal) met.0) ∙ ok))
  where
    made : List ℕ
    made = file_of level line label labelled

    one : ◌≡◌ {A = ℕ} 1 0 → ⊥
    one e = omega arith

    go : (l : Option Row) → level_of level ≡ l → (written_of level line label labelled (length file)).refusal ≡ 0
        → Stays made file (left_of level line label labelled file) (written_of level line label labelled (length file)).bytes
    go None e z = absurd (one (rw e at z))
    go (Some row) e z = by (eqb (write_refusal row level line label labelled (length file)) 0) refl
      where
        by : (t : Bool) → eqb (write_refusal row level line label labelled (length file)) 0 ≡ t
            → Stays made file (left_of level line label labelled file) (written_of level line label labelled (length file)).bytes
        by true t = rw (e, t) (take-append_seam made (drop (length made) file), drop_at made (drop (length made) file) (length made) refl)
        by false t = absurd (eqb-false (write_refusal row level line label labelled (length file)) 0 t (rw (e, t) at z))
