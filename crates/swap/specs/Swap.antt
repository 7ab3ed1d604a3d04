-- What swapping one tributary in place answers and what it leaves in the line, refused or not, for any input. Document 02, request 12.
use Rattle.std.specs.Prelude.{◌≡◌, Bool, cond, ◌&&◌, ◌||◌, List, ℕ, ◌*◌, ◌-◌, ◌%◌, eqb, ltb, length, get_or, Result, Ok, Err}
use Rattle.digits.specs.Digits.{digits_of, bytes_of, tab}
use Rattle.table.specs.declared.Row.{Row}
use Rattle.table.specs.Table.{level_of}
use Rattle.levels.specs.Sizes.{on_level, frames_of, frames_refusal}
use Rattle.levels.specs.Places.{kind_at, is_own}
use Rattle.levels.specs.Order.{actions, count_of}
use Rattle.levels.specs.Faults.{bad_earlier}
use Rattle.levels.specs.Line.{line_digit}
use Rattle.refusal.specs.declared.Refusal.{Refusal}
use Rattle.refusal.specs.Refusal.{number_of as refusal_number}

-- 12: "j outside 1 to 4"
abbrev pub bad_tributary : ℕ → Bool
bad_tributary tributary = eqb tributary 0 || ltb 4 tributary

-- 4: "eight times the buffer's bytes less than one tributary's room"
abbrev pub bad_room : Row → ℕ → ℕ → Bool
bad_room row line buffer = ltb (8 * buffer) (frames_of row line * row.room)

-- "Refused in the order 1, 12, 2, 3, 4, 5": the first of those after 1 that applies, or 0, by the earlier vote, the tributary's number and the lengths of
-- line, notes and buffer. No note is looked at: "only bit j−1"
unfoldable pub number_of : Row → ℕ → ℕ → ℕ → ℕ → ℕ → ℕ
number_of row earlier tributary line notes buffer =
    cond (bad_tributary tributary) 12
    (cond (eqb (frames_refusal row line notes) 0) (cond (bad_room row line buffer) 4 (cond (bad_earlier row earlier) 5 0)) (frames_refusal row line notes))

-- a place of the swapped line: tributary j's own places (from 0) are as multiplexing makes them of these notes and digits, "and touches no other digit"
abbrev pub swapped_digit : Row → ℕ → List ℕ → ℕ → List ℕ → List ℕ → ℕ → ℕ
swapped_digit row earlier notes j digits old p =
    cond (eqb (p % 4) j && is_own (kind_at row p)) (line_digit row earlier notes (λ (k : ℕ). digits) p) (get_or old p 0)

abbrev pub swapped_line : Row → ℕ → List ℕ → ℕ → List ℕ → List ℕ → List ℕ
swapped_line row earlier notes j buffer line =
    bytes_of (length line) (tab (8 * length line) 0 (swapped_digit row earlier notes j (digits_of buffer) (digits_of line)))

-- the call's answer as numbers: the refusal, 0 for none, and the digits taken
pub record Swapped : Type 0 where
  pub refusal : ℕ
  pub digits : ℕ

abbrev pub refused_with : ℕ → Swapped
refused_with refusal = record { refusal = refusal; digits = 0 }

-- the numbers of what the code answers
abbrev pub numbers_of : Result ℕ Refusal → Swapped
numbers_of (Ok digits) = record { refusal = 0; digits = digits }
numbers_of (Err refusal) = refused_with (refusal_number refusal)

-- accepted: the digits taken
abbrev pub swapped_on : Row → ℕ → ℕ → ℕ → List ℕ → ℕ → Swapped
swapped_on row earlier tributary line notes buffer =
    cond (eqb (number_of row earlier tributary line (length notes) buffer) 0)
    (record { refusal = 0; digits = count_of row (actions row earlier notes (tributary - 1)) (length notes) })
    (refused_with (number_of row earlier tributary line (length notes) buffer))

abbrev pub swapped : ℕ → ℕ → ℕ → ℕ → List ℕ → ℕ → Swapped
swapped level earlier tributary line notes buffer =
    on_level (level_of level) (λ (row : Row). swapped_on row earlier tributary line notes buffer) (refused_with 1)

-- the line at the end: with the tributary swapped, or as it was
abbrev pub line_on : Row → ℕ → ℕ → List ℕ → List ℕ → List ℕ → List ℕ
line_on row earlier tributary line notes buffer =
    cond (eqb (number_of row earlier tributary (length line) (length notes) (length buffer)) 0)
    (swapped_line row earlier notes (tributary - 1) buffer line)
    line

abbrev pub line_after : ℕ → ℕ → ℕ → List ℕ → List ℕ → List ℕ → List ℕ
line_after level earlier tributary line notes buffer = on_level (level_of level) (λ (row : Row). line_on row earlier tributary line notes buffer) line

-- the whole statement of the call: its answer, and the line it leaves
abbrev pub SwapMet : ℕ → ℕ → ℕ → List ℕ → List ℕ → List ℕ → Swapped → List ℕ → Type 0
SwapMet level earlier tributary line notes buffer answer left =
    (answer ≡ swapped level earlier tributary (length line) notes (length buffer)) × (left ≡ line_after level earlier tributary line notes buffer)
