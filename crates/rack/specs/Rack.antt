-- A rack of lines. Document 02, request 11: "up to 64 receivers, kept as records in one lent list".
use Rattle.std.specs.Prelude.{◌≡◌, cond, List, [], ◌∷◌, ℕ, ◌+◌, eqb, length, get_or, set}
use Rattle.digits.specs.Sums.{sum_to}
use Rattle.receiver.specs.Feed.{fresh_state, fresh_of}
use Rattle.records.specs.declared.record.Record.{Record}
use Rattle.records.specs.declared.record.Kept.{Kept}
use Rattle.receiver.specs.Numbers.{fed_answer}
use Rattle.records.specs.Record.{record_of, fed_record, kept_after, is_aligned}
use Rattle.records.specs.Rule.{list_refusal, none_taken, count_refusal}

-- record number `line` of the list, from 0; past its end a record that no call looks at
abbrev pub at : List Record → ℕ → Record
at records line = get_or records line (record_of (fresh_state 0))

-- ---- a call on line number `line`: `alone` is what the call gives to the record of that line

-- "then a feed refuses as a piece does"
abbrev pub refusal_by : ℕ → ℕ → Kept → ℕ
refusal_by number line alone = cond (eqb (list_refusal number line) 0) alone.refusal (list_refusal number line)

-- the whole list at the end: record number `line` is another, and nothing else
abbrev pub list_by : List Record → ℕ → Kept → List Record
list_by records line alone = cond (eqb (list_refusal (length records) line) 0) (set records line alone.kept) records

-- ---- the three calls

-- feeding: "a call that feeds a piece to line number k (from 0)"
abbrev pub fed_alone : List Record → ℕ → List ℕ → ℕ → ℕ → Kept
fed_alone records line piece first count = kept_after (fed_record (at records line) piece first count) (at records line)

abbrev pub feed_answer : List Record → ℕ → List ℕ → ℕ → ℕ → List ℕ
feed_answer records line piece first count =
    cond (eqb (list_refusal (length records) line) 0) (fed_answer (fed_record (at records line) piece first count)) none_taken

abbrev pub FeedMet : List Record → ℕ → List ℕ → ℕ → ℕ → ℕ → List Record → List ℕ → Type 0
FeedMet records line piece first count returned records_left answer_left =
    (returned ≡ refusal_by (length records) line (fed_alone records line piece first count))
    × (records_left ≡ list_by records line (fed_alone records line piece first count))
    × (answer_left ≡ feed_answer records line piece first count)

-- a reset: the record of a fresh state; where that is refused with 1, the record stays as it was
abbrev pub kept_reset : ℕ → Record → Kept
kept_reset level r = record { refusal = (fresh_of level).refusal; kept = cond (eqb (fresh_of level).refusal 0) (record_of (fresh_of level).state) r }

-- resetting: "Reset takes a level and refuses in the order 8, 2, 1"
abbrev pub ResetMet : List Record → ℕ → ℕ → ℕ → List Record → Type 0
ResetMet records line level returned records_left =
    (returned ≡ refusal_by (length records) line (kept_reset level (at records line)))
    × (records_left ≡ list_by records line (kept_reset level (at records line)))

-- counting: the count of aligned lines is a sum over records
abbrev pub aligned_of : List Record → ℕ → ℕ
aligned_of records n = sum_to n (λ i. cond (is_aligned (at records i).mode) 1 0)

abbrev pub AlignedMet : List Record → ℕ → List ℕ → Type 0
AlignedMet records returned answer_left =
    (returned ≡ count_refusal (length records)) × (answer_left ≡ cond (eqb (count_refusal (length records)) 0) (aligned_of records (length records)) 0 ∷ [])
