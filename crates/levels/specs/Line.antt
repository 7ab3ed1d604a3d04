-- A line, digit by digit, as multiplexing sends it: what stands at a place goes by the kind of the place. Document 01, "Digits and bytes" and
-- "The note of a frame"; document 02, request 10.
use Rattle.std.specs.Prelude.{cond, List, ℕ, ◌*◌, ◌/◌, ◌%◌, ◌^◌, get_or}
use Rattle.digits.specs.Digits.{bytes_of, tab}
use Rattle.table.specs.declared.Row.{Row}
use Rattle.levels.specs.declared.places.ServiceDigit.{ServiceDigit}
use Rattle.levels.specs.declared.places.ServiceDigit.TheVariants.{RemoteAlarm, FirstNational, SecondNational, ThirdNational, Fixed}
use Rattle.levels.specs.declared.order.Action.{Action}
use Rattle.levels.specs.declared.places.Kind.{Kind}
use Rattle.levels.specs.declared.places.Kind.TheVariants.{Word, Service, Control, Justification, Tributary}
use Rattle.levels.specs.Places.{pos_of, kind_at}
use Rattle.levels.specs.Order.{stuffed, actions, carried, before}
use Rattle.levels.specs.Word.{word_digit}

-- "Bit 4: remote alarm digit. Bit 5: first national digit. Bits 6 and 7: second and third national digit"; a service place that no note has is
-- "sent as 1"
abbrev pub service_by : ℕ → ServiceDigit → ℕ
service_by note RemoteAlarm = note / 2 ^ 4 % 2
service_by note FirstNational = note / 2 ^ 5 % 2
service_by note SecondNational = note / 2 ^ 6 % 2
service_by note ThirdNational = note / 2 ^ 7 % 2
service_by note Fixed = 1

-- the digit at place r of a set, by its kind, in a frame that acts so: j is the tributary (from 0), next the tributary's next digit. The control
-- digits are the frame's own vote; a justification place carries the next digit or is sent as 1: "A stuffing digit is sent as 1", "unused places
-- are sent as 1"
abbrev pub digit_by : Row → ℕ → Action → ℕ → ℕ → ℕ → Kind → ℕ
digit_by row note act j r next Word = word_digit row r
digit_by row note act j r next (Service s) = service_by note s
digit_by row note act j r next Control = cond (stuffed note j) 1 0
digit_by row note act j r next (Justification sign) = cond (carried (Justification sign) act) next 1
digit_by row note act j r next Tributary = next

-- place p of the line: the frame's own note and what it does decide, and the tributary's next digit is the one that this place carries
unfoldable pub line_digit : Row → ℕ → List ℕ → (ℕ → List ℕ) → ℕ → ℕ
line_digit row earlier notes tributary p =
    digit_by row (get_or notes (pos_of row p).frame 0) (actions row earlier notes (p % 4) (pos_of row p).frame) (p % 4) (pos_of row p).place
    (get_or (tributary (p % 4)) (before row (actions row earlier notes (p % 4)) (p % 4) (p / 4)) 0)
    (kind_at row p)

-- the line of so many bytes
abbrev pub line_of : Row → ℕ → List ℕ → (ℕ → List ℕ) → ℕ → List ℕ
line_of row earlier notes tributary bytes = bytes_of bytes (tab (8 * bytes) 0 (line_digit row earlier notes tributary))
