-- Any list of calls on a rack, and each line alone. Document 02, request 11: "Feeding or resetting line k changes no other record, and in any order
-- of calls each line answers as if alone." proofs/Alone.antt has the theorems.
use Rattle.std.specs.Prelude.{◌≡◌, cond, List, [], ◌∷◌, ℕ, ◌+◌, eqb, length, Some}
use Rattle.table.specs.declared.Row.{Row}
use Rattle.table.specs.Table.{level_of}
use Rattle.receiver.specs.declared.State.{State}
use Rattle.receiver.specs.Feed.{fresh_of, feed_of, ValidState}
use Rattle.records.specs.declared.record.Record.{Record}
use Rattle.receiver.specs.Numbers.{fed_answer}
use Rattle.rack.specs.Rack.{kept_reset}
use Rattle.records.specs.Record.{fed_record, kept_after, is_aligned}
use Rattle.rack.specs.Rack.{at, refusal_by, list_by, fed_alone, feed_answer}

-- a call on a line: a piece fed (slice, first digit, number of digits), or a reset to a level
pub data Call : Type 0 where
  Feed : List ℕ → ℕ → ℕ → Call
  Reset : ℕ → Call

-- what a call tells its caller: the number that it returns, and its answer; a reset has none
pub record Told : Type 0 where
  pub refusal : ℕ
  pub answer : List ℕ

-- ---- a receiver alone: the receiver's own calls, on its own state

abbrev pub told_alone : Call → State → Told
told_alone (Feed piece first count) s = record { refusal = (feed_of s piece first count).refusal; answer = fed_answer (feed_of s piece first count) }
told_alone (Reset level) s = record { refusal = (fresh_of level).refusal; answer = [] }

-- a reset that is refused leaves the state as it was
abbrev pub left_alone : Call → State → State
left_alone (Feed piece first count) s = (feed_of s piece first count).state
left_alone (Reset level) s = cond (eqb (fresh_of level).refusal 0) (fresh_of level).state s

-- what it tells of these calls, in order, and the state that they leave
unfoldable pub alone : List Call → State → List Told
alone [] s = []
alone (c ∷ cs) s = told_alone c s ∷ alone cs (left_alone c s)

unfoldable pub alone_left : List Call → State → State
alone_left [] s = s
alone_left (c ∷ cs) s = alone_left cs (left_alone c s)

-- ---- the same on one record, valid or not, with no list about it

abbrev pub told_one : Call → Record → Told
told_one (Feed piece first count) r = record { refusal = (fed_record r piece first count).refusal; answer = fed_answer (fed_record r piece first count) }
told_one (Reset level) r = record { refusal = (fresh_of level).refusal; answer = [] }

abbrev pub left_one : Call → Record → Record
left_one (Feed piece first count) r = (kept_after (fed_record r piece first count) r).kept
left_one (Reset level) r = (kept_reset level r).kept

unfoldable pub of_one : List Call → Record → List Told
of_one [] r = []
of_one (c ∷ cs) r = told_one c r ∷ of_one cs (left_one c r)

unfoldable pub one_left : List Call → Record → Record
one_left [] r = r
one_left (c ∷ cs) r = one_left cs (left_one c r)

-- ---- a rack: what its calls' statements (crate rack, specs/Rack.antt) say of a call on a line

abbrev pub told_by : Call → ℕ → List Record → Told
told_by (Feed piece first count) line records =
    record {
      refusal = refusal_by (length records) line (fed_alone records line piece first count);
      answer = feed_answer records line piece first count;
    }
told_by (Reset level) line records = record { refusal = refusal_by (length records) line (kept_reset level (at records line)); answer = [] }

abbrev pub left_by : Call → ℕ → List Record → List Record
left_by (Feed piece first count) line records = list_by records line (fed_alone records line piece first count)
left_by (Reset level) line records = list_by records line (kept_reset level (at records line))

-- any list of calls, each with its line: what is told of each, beside its line, and the list that they leave
unfoldable pub rack_told : List (ℕ × Call) → List Record → List (ℕ × Told)
rack_told [] records = []
rack_told (c ∷ cs) records = (c.0, told_by c.1 c.0 records) ∷ rack_told cs (left_by c.1 c.0 records)

unfoldable pub rack_left : List (ℕ × Call) → List Record → List Record
rack_left [] records = records
rack_left (c ∷ cs) records = rack_left cs (left_by c.1 c.0 records)

-- what belongs to line k, in order
unfoldable pub own : {A : Type 0} → ℕ → List (ℕ × A) → List A
own k [] = []
own k (x ∷ xs) = cond (eqb x.0 k) (x.1 ∷ own k xs) (own k xs)

-- a state that is not refused with 6
pub record Sound (s : State) : Type 0 where
  pub row : Row
  pub known : level_of s.level ≡ Some row
  pub valid : ValidState row s

-- ---- the count: how many records of a list are in mode aligned
unfoldable pub aligned_in : List Record → ℕ
aligned_in [] = 0
aligned_in (r ∷ records) = cond (is_aligned r.mode) 1 0 + aligned_in records
