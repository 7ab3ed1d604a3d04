-- Alarm indication. Document 02, request 4: "the receiver cuts its digits into stretches of N, counted from reset, whatever its mode".
use Rattle.std.specs.Prelude.{Bool, cond, true, false, ◌||◌, List, [], ◌∷◌, ℕ, ◌+◌, ◌-◌, ◌≤◌, ◌<◌, eqb, leb, ltb}
use Rattle.table.specs.declared.Row.{Row}
use Rattle.pieces.specs.declared.alarm.Stretch.{Stretch}

-- "at most four zeros (five at level 4)": the limit is a number of the row
abbrev pub is_few : Row → ℕ → Bool
is_few row zeros = leb zeros row.limit

-- "Alarm indication begins when two stretches in a row have each at most four zeros .. and ends when two in a row have each more":
-- whether the stretch that ends has few zeros, whether the one before had, and the alarm before
abbrev pub alarm_after : Bool → Bool → Bool → Bool
alarm_after true true alarm = true
alarm_after true false alarm = alarm
alarm_after false true alarm = alarm
alarm_after false false alarm = false

-- a stretch has ended with so many zeros, and the next begins
abbrev pub ended : Row → Stretch → ℕ → Stretch
ended row st zeros = record { digits = 0; zeros = 0; few = is_few row zeros; alarm = alarm_after (is_few row zeros) st.few st.alarm }

-- n digits more, z of them zeros, for which the stretch has room: it ends with its N-th digit
unfoldable pub added : Row → Stretch → ℕ → ℕ → Stretch
added row st n z =
    cond (eqb (st.digits + n) row.digits) (ended row st (st.zeros + z))
    (record { digits = st.digits + n; zeros = st.zeros + z; few = st.few; alarm = st.alarm })

-- after a digit; after these digits
abbrev pub count_of : Row → Stretch → ℕ → Stretch
count_of row st d = added row st 1 (1 - d)

unfoldable pub counted : Row → Stretch → List ℕ → Stretch
counted row st [] = st
counted row st (d ∷ ds) = counted row (count_of row st d) ds

-- "(fresh: no)": no digits, no zeros, the stretch before had not few, and no alarm
abbrev pub fresh_stretch : Stretch
fresh_stretch = record { digits = 0; zeros = 0; few = false; alarm = false }

-- "N or more digits, or more zeros than digits, are refused with 6"
unfoldable pub uncounted : Row → Stretch → Bool
uncounted row st = leb row.digits st.digits || ltb st.digits st.zeros

-- the same item by item: crates/receiver/proofs/Validity.antt shows that it is `uncounted` answered with no
pub record Counting (row : Row) (st : Stretch) : Type 0 where
  pub within : st.digits < row.digits
  pub fewer : st.zeros ≤ st.digits
