-- The refusals of the verdict, and of the calls beside the documents' own: two lines without their files, digits carried, the names of places, where a recording
-- or a multiframe begins. Shapes and words are those of specs/Tables.antt. (The plain engine and the late line have multiplexing's, reading's and
-- extraction's own tables.)
use Rattle.std.specs.Prelude.{not, ◌&&◌, List, [], ◌∷◌, ◌++◌, ℕ, ◌+◌, ◌-◌, ◌*◌, ◌^◌, eqb, ltb, leb}
use Rattle.table.specs.declared.Row.{Row}
use Rattle.levels.specs.Sizes.{bad_line, bad_buffer}
use Rattle.levels.specs.Faults.{bad_earlier}
use Rattle.judge.specs.Verdict.{bad_pattern}
use Rattle.refusals.specs.First.{Given, given}
use Rattle.refusals.specs.Tables.{no_level, on_row}

-- the verdict: 1, 13 "for any other pattern", 2, 4 "only with pattern 0", 5 for the earlier vote
abbrev pub judge_table : ℕ → ℕ → ℕ → ℕ → ℕ → List Given
judge_table level earlier line pattern buffer =
    given 1 (no_level level)
    ∷ given 13 (bad_pattern pattern)
    ∷ given 2 (on_row level (λ (row : Row). bad_line row line))
    ∷ given 4 (eqb pattern 0 && on_row level (λ (row : Row). bad_buffer row line buffer))
    ∷ given 5 (on_row level (λ (row : Row). bad_earlier row earlier))
    ∷ []

-- two lines: 1, 2 for the first line, 2 for a second of another length
abbrev pub lines_table : ℕ → ℕ → ℕ → List Given
lines_table level one other =
    given 1 (no_level level)
    ∷ given 2 (on_row level (λ (row : Row). bad_line row one))
    ∷ given 2 (not (eqb other one))
    ∷ []

-- a stretch of them: as two lines, then 7 where they have not so many places
abbrev pub stretch_table : ℕ → ℕ → ℕ → ℕ → ℕ → List Given
stretch_table level one other first count = lines_table level one other ++ (given 7 (ltb (8 * one) (first + count)) ∷ [])

-- digits carried: 7 where one of the two slices has not so many
abbrev pub copy_table : ℕ → ℕ → ℕ → ℕ → ℕ → List Given
copy_table to at from first count =
    given 7 (ltb (8 * to) (at + count))
    ∷ given 7 (ltb (8 * from) (first + count))
    ∷ []

-- a place of a frame: 1, and 7 where the frame has no such place
abbrev pub place_table : ℕ → ℕ → List Given
place_table level p =
    given 1 (no_level level)
    ∷ given 7 (on_row level (λ (row : Row). leb row.digits p))
    ∷ []

-- a place of a multiframe of 512 bytes
abbrev pub multiframe_place_table : ℕ → List Given
multiframe_place_table p = given 7 (leb 4096 p) ∷ []

-- where a recording begins: no number to be tried, a reading with too few digits, a last digit whose number does not fit, or that was not sent
abbrev pub begins_table : ℕ → ℕ → ℕ → ℕ → ℕ → List Given
begins_table read digits sent first count =
    given 7 (eqb count 0)
    ∷ given 7 (ltb (8 * read) digits)
    ∷ given 7 (leb (2 ^ 64) (first + (count - 1) + digits))
    ∷ given 7 (ltb (8 * sent) (first + (count - 1) + digits))
    ∷ []

-- where a multiframe begins: 2 where the frames are not sixteen whole ones
abbrev pub start_table : ℕ → List Given
start_table frames = given 2 (not (eqb frames 512)) ∷ []
