-- Repairing a worn line in place: what the call answers and what it leaves in the line, refused or not, for any input. Document 02, request 13: "sets
-- alignment digits to the word, control groups to their majority and stuffing digits to 1, and prints how many digits it changed of each kind and
-- tributary". Request 14: "The repair tool gets a switch that at levels 2 to 4 sets them to 1 and counts that": the national digits. `national` is the switch.
use Rattle.std.specs.Prelude.{◌≡◌, Bool, cond, not, List, [], ◌∷◌, ℕ, ◌*◌, ◌%◌, eqb, length, get_or, Result, Ok, Err}
use Rattle.digits.specs.Digits.{digits_of, bytes_of, tab}
use Rattle.table.specs.declared.Row.{Row}
use Rattle.table.specs.Table.{level_of}
use Rattle.levels.specs.declared.order.Action.{Action}
use Rattle.levels.specs.declared.places.ServiceDigit.{ServiceDigit}
use Rattle.levels.specs.declared.places.ServiceDigit.TheVariants.{RemoteAlarm, FirstNational, SecondNational, ThirdNational, Fixed}
use Rattle.levels.specs.declared.places.Sign.TheVariants.{Positive}
use Rattle.levels.specs.declared.places.Kind.{Kind}
use Rattle.levels.specs.declared.places.Kind.TheVariants.{Word, Service, Control, Justification, Tributary}
use Rattle.levels.specs.Sizes.{on_level, frames_of, bad_line}
use Rattle.levels.specs.Places.{kind_at, pos_of}
use Rattle.levels.specs.Order.{actions, carried}
use Rattle.levels.specs.Word.{word_digit}
use Rattle.levels.specs.Faults.{bad_earlier}
use Rattle.reading.specs.Notes.{vote_at, notes_of}
use Rattle.tally.specs.Tally.{sum_number, sum_of}
use Rattle.refusal.specs.declared.Refusal.{Refusal}
use Rattle.refusal.specs.Refusal.{number_of as refusal_number}
use Rattle.repair.specs.declared.Changes.{Changes}

-- ---- the line

-- a service digit: a national one becomes 1 where the switch is on; the remote alarm digit and the service digits that no note has stay, so that at levels 12
-- and 14, which have no national digits, the switch does nothing
abbrev pub repaired_service : Bool → ℕ → ServiceDigit → ℕ
repaired_service national came RemoteAlarm = came
repaired_service national came FirstNational = cond national 1 came
repaired_service national came SecondNational = cond national 1 came
repaired_service national came ThirdNational = cond national 1 came
repaired_service national came Fixed = came

-- what place r of a set becomes, by its kind: stuffed is the majority of its tributary's control group, act what the frame does for that tributary, came
-- the digit as it came. "alignment digits to the word, control groups to their majority and stuffing digits to 1": a justification place that carries no
-- digit has a stuffing digit, "unused negative places become 1 too". Every digit that is carried stays
abbrev pub repaired_by : Row → Bool → Bool → Action → ℕ → ℕ → Kind → ℕ
repaired_by row national stuffed act r came Word = word_digit row r
repaired_by row national stuffed act r came (Service s) = repaired_service national came s
repaired_by row national stuffed act r came Control = cond stuffed 1 0
repaired_by row national stuffed act r came (Justification sign) = cond (carried (Justification sign) act) came 1
repaired_by row national stuffed act r came Tributary = came

-- place p of a line of F frames whose digits came as ds: its frame's own majority, and what the frame does by the notes that are read from ds, "with the
-- earlier vote" before frame 0 at levels 12 and 14
unfoldable pub repaired_digit : Row → ℕ → Bool → ℕ → List ℕ → ℕ → ℕ
repaired_digit row earlier national F ds p =
    repaired_by row national (vote_at row ds (pos_of row p).frame (p % 4)).stuffed
    (actions row earlier (notes_of row ds F) (p % 4) (pos_of row p).frame)
    (pos_of row p).place (get_or ds p 0)
    (kind_at row p)

-- place p of a line of bytes, and the line
abbrev pub becomes : Row → ℕ → Bool → List ℕ → ℕ → ℕ
becomes row earlier national line = repaired_digit row earlier national (frames_of row (length line)) (digits_of line)

unfoldable pub repaired_line : Row → ℕ → Bool → List ℕ → List ℕ
repaired_line row earlier national line = bytes_of (length line) (tab (8 * length line) 0 (becomes row earlier national line))

-- ---- what is counted

-- the digit at place p changes
abbrev pub changes : Row → ℕ → Bool → List ℕ → ℕ → Bool
changes row earlier national line p = not (eqb (get_or (digits_of line) p 0) (becomes row earlier national line p))

-- "how many digits it changed of each kind and tributary": of the places of this kind, of tributary j (from 0) where a tributary owns them, by the one
-- table of kinds (crate tally). Negative and positive places are one kind
abbrev pub changed_of : Row → ℕ → Bool → List ℕ → Kind → ℕ → ℕ
changed_of row earlier national line kind j = sum_of row (changes row earlier national line) (8 * length line) (sum_number kind j)

-- the call's answer as numbers: the refusal, 0 for none, and how many digits changed, of the word, of each tributary's control and stuffing digits, and
-- national digits
pub record Repaired : Type 0 where
  pub refusal : ℕ
  pub word : ℕ
  pub control : List ℕ
  pub stuffing : List ℕ
  pub national : ℕ

abbrev pub four : (ℕ → ℕ) → List ℕ
four g = g 0 ∷ g 1 ∷ g 2 ∷ g 3 ∷ []

unfoldable pub changed : Row → ℕ → Bool → List ℕ → Repaired
changed row earlier national line =
    record {
      refusal = 0;
      word = changed_of row earlier national line Word 0;
      control = four (changed_of row earlier national line Control);
      stuffing = four (changed_of row earlier national line (Justification Positive));
      national = changed_of row earlier national line (Service FirstNational) 0;
    }

-- ---- the answer

-- the first of 2 and 5 that applies, or 0: "Levels 12 and 14 need the earlier vote (over 15: 5)"
unfoldable pub number_of : Row → ℕ → ℕ → ℕ
number_of row earlier line = cond (bad_line row line) 2 (cond (bad_earlier row earlier) 5 0)

-- refused: nothing is changed
abbrev pub refused_with : ℕ → Repaired
refused_with refusal =
    record { refusal = refusal; word = 0; control = 0 ∷ 0 ∷ 0 ∷ 0 ∷ []; stuffing = 0 ∷ 0 ∷ 0 ∷ 0 ∷ []; national = 0 }

-- the numbers of what the code answers
abbrev pub numbers_of : Result Changes Refusal → Repaired
numbers_of (Ok made) =
    record { refusal = 0; word = made.word; control = made.control; stuffing = made.stuffing; national = made.national }
numbers_of (Err refusal) = refused_with (refusal_number refusal)

abbrev pub repaired_on : Row → ℕ → Bool → List ℕ → Repaired
repaired_on row earlier national line =
    cond (eqb (number_of row earlier (length line)) 0) (changed row earlier national line) (refused_with (number_of row earlier (length line)))

abbrev pub repaired : ℕ → ℕ → Bool → List ℕ → Repaired
repaired level earlier national line = on_level (level_of level) (λ (row : Row). repaired_on row earlier national line) (refused_with 1)

-- the line at the end: repaired, or as it was
abbrev pub line_on : Row → ℕ → Bool → List ℕ → List ℕ
line_on row earlier national line = cond (eqb (number_of row earlier (length line)) 0) (repaired_line row earlier national line) line

abbrev pub line_after : ℕ → ℕ → Bool → List ℕ → List ℕ
line_after level earlier national line = on_level (level_of level) (λ (row : Row). line_on row earlier national line) line

-- the whole statement of the call: its answer, and the line that it leaves
abbrev pub RepairMet : ℕ → ℕ → Bool → List ℕ → Repaired → List ℕ → Type 0
RepairMet level earlier national line answer left = (answer ≡ repaired level earlier national line) × (left ≡ line_after level earlier national line)
