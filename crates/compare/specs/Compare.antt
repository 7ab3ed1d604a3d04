-- Where two recordings differ: what a comparison of two captures answers and lists, refused or not, for any bytes. Request 6 of document 02. A file
-- is read as by the reader (crate captures), and what differs is counted in the fifteen sums and listed (crate differing). specs/Lines.antt says the
-- same of two lines without their files.
use Rattle.std.specs.Prelude.{◌≡◌, cond, List, ℕ, eqb, replicate}
use Rattle.table.specs.declared.Row.{Row}
use Rattle.table.specs.Table.{level_of}
use Rattle.levels.specs.Sizes.{on_level}
use Rattle.captures.specs.declared.Reading.{Reading}
use Rattle.captures.specs.Captures.{read_of, bytes_in}
use Rattle.differing.specs.declared.Compared.{Compared}
use Rattle.differing.specs.Differing.{counted_on, listed_on}
use Rattle.compare.specs.declared.Fault.{Fault}

-- ---- refusals

abbrev pub fault_in : ℕ → ℕ → ℕ → Fault
fault_in refusal file byte = record { refusal = refusal; file = file; byte = byte }

-- "A bad capture is answered as by the reader, the first file first; then unequal level with 1, unequal length with 2": file 1 or 2 is at fault,
-- and no file where the two do not fit each other; 0 is no refusal
unfoldable pub fault_of : Reading → Reading → Fault
fault_of one other =
    cond (eqb one.refusal 0)
    (cond (eqb other.refusal 0)
    (cond (eqb one.level other.level) (cond (eqb one.line.bytes other.line.bytes) (fault_in 0 0 0) (fault_in 2 0 0)) (fault_in 1 0 0))
    (fault_in other.refusal 2 other.byte))
    (fault_in one.refusal 1 one.byte)

-- refused: nothing is counted and nothing listed
abbrev pub refused_by : Fault → Compared
refused_by f = record { refusal = f.refusal; file = f.file; byte = f.byte; sums = replicate 15 0; all = 0; listed = 0 }

-- ---- the answer

-- the line of a capture
abbrev pub line_of : List ℕ → List ℕ
line_of file = bytes_in file (read_of file).line

-- what the comparison answers; a capture that is accepted has a level, so that the last choice is never taken
unfoldable pub compared_of : List ℕ → List ℕ → Compared
compared_of one other =
    cond (eqb (fault_of (read_of one) (read_of other)).refusal 0)
    (on_level (level_of (read_of one).level) (λ (row : Row). counted_on row (line_of one) (line_of other)) (refused_by (fault_in 1 0 0)))
    (refused_by (fault_of (read_of one) (read_of other)))

-- what it leaves in the list of frames and places; a refusal writes nothing, so the list is then as it was
unfoldable pub listed_of : List ℕ → List ℕ → List ℕ → List ℕ
listed_of one other lent =
    cond (eqb (fault_of (read_of one) (read_of other)).refusal 0)
    (on_level (level_of (read_of one).level) (λ (row : Row). listed_on row (line_of one) (line_of other)) lent)
    lent

-- the whole statement of `compare`: its answer, and what it leaves in the list that it was lent
abbrev pub CompareMet : List ℕ → List ℕ → List ℕ → Compared → List ℕ → Type 0
CompareMet one other lent answer left = (answer ≡ compared_of one other) × (left ≡ listed_of one other lent)
