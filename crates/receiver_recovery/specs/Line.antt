-- A line of correct frames, begun anywhere, and what it is to be aligned with it. Document 02, request 8.
use Rattle.std.specs.Prelude.{◌≡◌, Bool, cond, true, false, List, ℕ, ◌+◌, ◌-◌, ◌%◌, ◌≤◌, length, get_or, take, drop}
use Rattle.digits.specs.Digits.{Binary, written, tab}
use Rattle.table.specs.declared.Row.{Row}
use Rattle.levels.specs.declared.places.Kind.{Kind}
use Rattle.levels.specs.declared.places.Kind.TheVariants.{Word, Service, Control, Justification, Tributary}
use Rattle.levels.specs.declared.places.ServiceDigit.TheVariants.{RemoteAlarm, FirstNational, SecondNational, ThirdNational, Fixed}
use Rattle.levels.specs.Places.{kind_at}
use Rattle.modes.specs.declared.Mode.TheVariants.{Aligned}
use Rattle.receiver.specs.declared.State.{State}
use Rattle.receiver_promises.specs.Line.{in_frame, Framed}

-- the word's L digits
abbrev pub word_of : Row → List ℕ
word_of row = written row.len row.word

-- "a line of correct frames, begun anywhere in a frame": its first digit stands at place o of a frame, and at the places of the words stand the
-- words (`Framed`); "in which no L digits in a row other than the true words equal the word". Nothing is asked of the other digits, and nothing of
-- what came before the line. A word that the line's first or last digit cuts is asked for as far as it is there
pub record CorrectLine (row : Row) (o : ℕ) (ds : List ℕ) : Type 0 where
  pub binary : Binary ds
  pub framed : Framed row o ds
  pub no_others : (i : ℕ) → i + row.len ≤ length ds → take row.len (drop i ds) ≡ word_of row → in_frame row o i ≡ 0

-- "its last digit, place N−L": places are counted from the word's last digit, which is place 0, so that a frame's last digit is this one
abbrev pub frame_end : Row → ℕ
frame_end row = row.digits - row.len

-- "the true place" after k digits of the line: after a frame's last digit came the o digits that the line does not have, and then k
unfoldable pub true_place : Row → ℕ → ℕ → ℕ
true_place row o k = (o + k + frame_end row) % row.digits

-- after k digits of the line "the receiver is aligned at the true place", and no word is missed
pub record AlignedAfter (row : Row) (o k : ℕ) (s : State) : Type 0 where
  pub mode : s.mode ≡ Aligned 0
  pub place : s.place ≡ true_place row o k

-- n digits of a line whose frames have these digits at their places, begun at place o
abbrev pub frames_of : Row → (ℕ → ℕ) → ℕ → ℕ → List ℕ
frames_of row digit o n = tab n 0 (λ i. digit (in_frame row o i))

-- such a line: the words, and 0 at every other place (proofs/ZeroLines.antt)
abbrev pub zero_digit : Row → ℕ → ℕ
zero_digit row place = get_or (word_of row) place 0

abbrev pub zero_line : Row → ℕ → ℕ → List ℕ
zero_line row o n = frames_of row (zero_digit row) o n

-- and another, which multiplexing makes of zeros (proofs/Multiplexed.antt): the words, 1 at the national places and at the service places that no note
-- has, and 0 at every other place
abbrev pub is_one : Kind → Bool
is_one Word = false
is_one (Service RemoteAlarm) = false
is_one (Service FirstNational) = true
is_one (Service SecondNational) = true
is_one (Service ThirdNational) = true
is_one (Service Fixed) = true
is_one Control = false
is_one (Justification sign) = false
is_one Tributary = false

abbrev pub idle_digit : Row → ℕ → ℕ
idle_digit row place = cond (is_one (kind_at row place)) 1 (zero_digit row place)

abbrev pub idle_line : Row → ℕ → ℕ → List ℕ
idle_line row o n = frames_of row (idle_digit row) o n
