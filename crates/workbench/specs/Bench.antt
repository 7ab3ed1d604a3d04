-- The line and the notes of a multiplexer that acts on its decisions a frame late. `..Met` are whole statements of functions.
use Rattle.std.specs.Prelude.{◌≡◌, Bool, cond, true, false, List, ◌∷◌, ℕ, ◌+◌, ◌*◌, ◌/◌, ◌%◌, ltb, length, get_or}
use Rattle.digits.specs.Digits.{digits_of, bytes_of, tab}
use Rattle.table.specs.declared.Row.{Row}
use Rattle.levels.specs.declared.places.Kind.{Kind}
use Rattle.levels.specs.declared.places.Kind.TheVariants.{Word, Service, Control, Justification, Tributary}
use Rattle.levels.specs.Places.{kind_at}
use Rattle.table.specs.Table.{level_of}
use Rattle.levels.specs.Sizes.{on_level}
use Rattle.levels.specs.Faults.{Counted}
use Rattle.levels.specs.Faults.{send_fault_of, send_answered, left_by}
use Rattle.multiplex.specs.Multiplex.{line_on, line_after}

abbrev pub is_control : Kind → Bool
is_control Word = false
is_control (Service s) = false
is_control Control = true
is_control (Justification sign) = false
is_control Tributary = false

-- place p of a line whose control digits are those of one line and whose other digits are those of another
unfoldable pub mixed : Row → List ℕ → List ℕ → ℕ → ℕ
mixed row said line p = cond (is_control (kind_at row (p % row.digits))) (get_or said p 0) (get_or line p 0)

-- the bytes of that line
abbrev pub mixed_line : Row → List ℕ → List ℕ → List ℕ
mixed_line row said line = bytes_of (length line) (tab (8 * length line) 0 (mixed row (digits_of said) (digits_of line)))

-- the late multiplexer's line at the end: refused, as it was; else the line that the late notes make, with the control digits of the line
-- that the notes make
abbrev pub late_line : ℕ → ℕ → List ℕ → List ℕ → List ℕ → List ℕ → List ℕ → List ℕ
late_line level earlier line said notes late buffer =
    on_level (level_of level)
    (λ (row : Row).
    left_by (send_fault_of row earlier (length line) late (length buffer)) (mixed_line row (line_on row earlier said notes buffer) (line_on row earlier line late buffer)) line)
    line

-- `late_line`: its answer is that of multiplexing by the late notes, `said` is left as the line of a right multiplexer, and the line as above
abbrev pub LateLineMet : ℕ → ℕ → List ℕ → List ℕ → List ℕ → List ℕ → List ℕ → Counted → List ℕ → List ℕ → Type 0
LateLineMet level earlier line said notes late buffer answer said_left line_left =
    (answer ≡ send_answered level earlier (length line) late (length buffer))
    × (said_left ≡ line_after level earlier said notes buffer)
    × (line_left ≡ late_line level earlier line said notes late buffer)

-- a note with the decisions of one note, bits 0 to 3, and the service digits of another
abbrev pub decided_by : ℕ → ℕ → ℕ
decided_by last note = last % 16 + note / 16 * 16

-- the late note of frame f: the decisions are those of the frame before (of the note `before` in frame 0), the service digits its own.
-- Past the notes it is what stood there
unfoldable pub delayed : ℕ → List ℕ → List ℕ → ℕ → ℕ
delayed before notes late f = cond (ltb f (length notes)) (decided_by (get_or (before ∷ notes) f 0) (get_or notes f 0)) (get_or late f 0)

-- `delay`: the late notes that are left
abbrev pub DelayMet : List ℕ → List ℕ → ℕ → List ℕ → Type 0
DelayMet late notes before left = left ≡ tab (length late) 0 (delayed before notes late)
