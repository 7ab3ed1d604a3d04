-- What a place of a frame is. Document 01, "Digits and bytes", and document 02, request 10: it depends only on the range that the place in its set
-- falls in; whose it is, only on its remainder by four. Sets, places and tributaries are counted from 0 here: tributary j
-- of document 01 is the remainder j - 1. specs/Sentences.antt holds this beside the document's sentences.
use Rattle.std.specs.Prelude.{Bool, cond, true, false, ℕ, zero, suc, ◌+◌, ◌-◌, ◌/◌, ◌%◌, eqb, ltb}
use Rattle.table.specs.declared.Row.{Row}
use Rattle.levels.specs.declared.places.At.{At}
use Rattle.levels.specs.declared.places.ServiceDigit.{ServiceDigit}
use Rattle.levels.specs.declared.places.ServiceDigit.TheVariants.{RemoteAlarm, FirstNational, SecondNational, ThirdNational, Fixed}
use Rattle.levels.specs.declared.places.Sign.TheVariants.{Negative, Positive}
use Rattle.levels.specs.declared.places.Kind.{Kind}
use Rattle.levels.specs.declared.places.Kind.TheVariants.{Word, Service, Control, Justification, Tributary}

-- the service digits that a note has, in the order of its bits and of their places: the remote alarm digit, then the national digits
abbrev pub noted_digit : ℕ → ServiceDigit
noted_digit zero = RemoteAlarm
noted_digit (suc zero) = FirstNational
noted_digit (suc (suc zero)) = SecondNational
noted_digit (suc (suc (suc k))) = ThirdNational

-- how many they are
abbrev pub noted_of : Row → ℕ
noted_of row = row.alarms + row.nationals

-- service digit k of the first set's head; those that no note has are fixed
abbrev pub service_digit : Row → ℕ → ServiceDigit
service_digit row k = cond (ltb k (noted_of row)) (noted_digit k) Fixed

-- place r of the first set: the word, the service digits, then tributary digits
unfoldable pub first_set : Row → ℕ → Kind
first_set row r = cond (ltb r row.len) Word (cond (ltb r row.first) (Service (service_digit row (r - row.len))) Tributary)

-- place r of a set between the first and the last: four control digits, fixed service digits where the level has them, then tributary digits
unfoldable pub middle_set : Row → ℕ → Kind
middle_set row r = cond (ltb r 4) Control (cond (ltb r row.middle) (Service Fixed) Tributary)

-- place r of the last set: four control digits, the negative places where the level has them, the four positive places, then tributary digits
unfoldable pub last_set : Row → ℕ → Kind
last_set row r =
    cond (ltb r 4) Control
    (cond (ltb r (row.last - 4)) (Justification Negative) (cond (ltb r row.last) (Justification Positive) Tributary))

-- place r of set s
unfoldable pub kind_of : Row → ℕ → ℕ → Kind
kind_of row s r = cond (eqb s 0) (first_set row r) (cond (eqb s (row.sets - 1)) (last_set row r) (middle_set row r))

-- where the head of set s ends: its first tributary place, off the table
unfoldable pub head_end : Row → ℕ → ℕ
head_end row s = cond (eqb s 0) row.first (cond (eqb s (row.sets - 1)) row.last row.middle)

-- where place p of a line stands: its frame, the set in the frame, the place in the set. A place in a frame is a place in a line of one frame
unfoldable pub pos_of : Row → ℕ → At
pos_of row p = record { frame = p / row.digits; set = p % row.digits / row.set; place = p % row.digits % row.set }

-- what place p of a line is
abbrev pub kind_at : Row → ℕ → Kind
kind_at row p = kind_of row (pos_of row p).set (pos_of row p).place

-- a tributary's own places are its control, justification and tributary digits, stuffed or not
abbrev pub is_own : Kind → Bool
is_own Word = false
is_own (Service s) = false
is_own Control = true
is_own (Justification sign) = true
is_own Tributary = true
