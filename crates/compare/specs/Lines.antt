-- Where two lines differ, which stand in no file: the whole of them, or a stretch of their places. What differs is counted and listed as by the
-- comparison of two captures (specs/Compare.antt), for any level number, any bytes and any numbers.
use Rattle.std.specs.Prelude.{◌≡◌, Bool, cond, ◌&&◌, List, ℕ, ◌+◌, ◌*◌, eqb, ltb, leb, length, replicate}
use Rattle.table.specs.declared.Row.{Row}
use Rattle.table.specs.Table.{level_of}
use Rattle.levels.specs.Sizes.{on_level, bad_line}
use Rattle.tally.specs.Tally.{all_of, sums_of, differ_at}
use Rattle.differing.specs.declared.Compared.{Compared}
use Rattle.differing.specs.Differing.{counted_on, listed_on}
use Rattle.compare.specs.declared.lines.Stretch.{Stretch}
use Rattle.compare.specs.Compare.{fault_in, refused_by}

-- ---- two lines

-- 2: the first line is no whole number of frames, or over 64; then 2 again: the second line's length is not the first's. 0 is no refusal
unfoldable pub lines_refusal : Row → ℕ → ℕ → ℕ
lines_refusal row one other = cond (bad_line row one) 2 (cond (eqb other one) 0 2)

-- what the comparison of two lines answers: 1 where the level is none; no file is at fault and no byte is named
unfoldable pub lines_of : ℕ → List ℕ → List ℕ → Compared
lines_of level one other =
    on_level (level_of level)
    (λ (row : Row). cond (eqb (lines_refusal row (length one) (length other)) 0) (counted_on row one other) (refused_by (fault_in 2 0 0)))
    (refused_by (fault_in 1 0 0))

-- what it leaves in the list of frames and places: as it was, where it is refused
unfoldable pub lines_listed : ℕ → List ℕ → List ℕ → List ℕ → List ℕ
lines_listed level one other lent =
    on_level (level_of level) (λ (row : Row). cond (eqb (lines_refusal row (length one) (length other)) 0) (listed_on row one other) lent) lent

-- the whole statement of `compare_lines`: its answer, and what it leaves in the list that it was lent
abbrev pub LinesMet : ℕ → List ℕ → List ℕ → List ℕ → Compared → List ℕ → Type 0
LinesMet level one other lent answer left = (answer ≡ lines_of level one other) × (left ≡ lines_listed level one other lent)

-- ---- a stretch of their places

-- the lines differ at place p, which is `first` or comes after it
abbrev pub differ_from : List ℕ → List ℕ → ℕ → ℕ → Bool
differ_from one other first p = leb first p && differ_at one other p

-- refused: nothing is counted
abbrev pub stretch_refused : ℕ → Stretch
stretch_refused refusal = record { refusal = refusal; sums = replicate 15 0; all = 0 }

-- so many places from `first` on: the fifteen sums over them, and all digits that differ there
unfoldable pub stretch_on : Row → List ℕ → List ℕ → ℕ → ℕ → Stretch
stretch_on row one other first count =
    record {
      refusal = 0;
      sums = sums_of row (differ_from one other first) (first + count);
      all = all_of (differ_from one other first) (first + count);
    }

-- what a stretch answers: refused as two lines are, and then with 7 where the lines have not so many places
unfoldable pub stretch_of : ℕ → List ℕ → List ℕ → ℕ → ℕ → Stretch
stretch_of level one other first count =
    on_level (level_of level)
    (λ (row : Row).
    cond (eqb (lines_refusal row (length one) (length other)) 0)
    (cond (ltb (8 * length one) (first + count)) (stretch_refused 7) (stretch_on row one other first count))
    (stretch_refused 2))
    (stretch_refused 1)

-- the whole statement of `compare_stretch`, which writes nothing but its answer
abbrev pub StretchAnswered : ℕ → List ℕ → List ℕ → ℕ → ℕ → Stretch → Type 0
StretchAnswered level one other first count answer = answer ≡ stretch_of level one other first count
