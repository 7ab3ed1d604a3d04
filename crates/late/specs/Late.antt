-- The line of a multiplexer that acts on its decisions a frame late, at every level. Its control digits say each frame's own decision; every other digit is
-- what a right multiplexer sends by the late notes, in which each frame has the decisions of the frame before. `LateMet` is the whole statement of
-- `late_multiplex`.
use Rattle.std.specs.Prelude.{◌≡◌, List, [], ◌∷◌, ℕ, length, take}
use Rattle.digits.specs.Digits.{digits_of}
use Rattle.table.specs.declared.Row.{Row}
use Rattle.table.specs.Table.{level_of}
use Rattle.levels.specs.Sizes.{on_level, quarter_of}
use Rattle.levels.specs.Faults.{Counted}
use Rattle.levels.specs.Faults.{fault, send_fault_of, answer_by, refused_with, left_by}
use Rattle.levels.specs.Line.{line_of}
use Rattle.workbench.specs.Bench.{decided_by, mixed_line}

-- the late notes: in bits 0 to 3 the decisions of the frame before, of `before` in frame 0; the service digits are the frame's own
unfoldable pub late_notes : ℕ → List ℕ → List ℕ
late_notes before [] = []
late_notes before (note ∷ notes) = decided_by before note ∷ late_notes note notes

-- the line that multiplexing makes of these notes
abbrev pub sent_by : Row → ℕ → List ℕ → List ℕ → ℕ → List ℕ
sent_by row earlier notes buffer bytes = line_of row earlier notes (λ (j : ℕ). digits_of (quarter_of buffer j)) bytes

-- the late line: the control digits of the line that the notes make, every other digit of the line that the late notes make
abbrev pub late_line_of : Row → ℕ → List ℕ → List ℕ → ℕ → List ℕ
late_line_of row earlier notes buffer bytes = mixed_line row (sent_by row earlier notes buffer bytes) (sent_by row earlier (late_notes earlier notes) buffer bytes)

-- what is answered: refused as multiplexing refuses these notes; else the digits that the late line took
abbrev pub late_answer : ℕ → ℕ → ℕ → List ℕ → ℕ → Counted
late_answer level earlier line notes buffer =
    on_level (level_of level) (λ (row : Row). answer_by row earlier (late_notes earlier notes) (send_fault_of row earlier line notes buffer)) (refused_with (fault 1 0))

-- the line that is left: refused, as it was
abbrev pub late_left : ℕ → ℕ → List ℕ → List ℕ → List ℕ → List ℕ
late_left level earlier line notes buffer =
    on_level (level_of level)
    (λ (row : Row). left_by (send_fault_of row earlier (length line) notes (length buffer)) (late_line_of row earlier notes buffer (length line)) line)
    line

abbrev pub LateMet : ℕ → ℕ → List ℕ → List ℕ → List ℕ → Counted → List ℕ → Type 0
LateMet level earlier line notes buffer answer left =
    (answer ≡ late_answer level earlier (length line) notes (length buffer)) × (left ≡ late_left level earlier line notes buffer)

-- ---- between the call and its functions

-- the late notes stand at the beginning of their room
pub record Delayed (before : ℕ) (notes room : List ℕ) : Type 0 where
  pub size : 64 ≡ length room
  pub late : take (length notes) room ≡ late_notes before notes
