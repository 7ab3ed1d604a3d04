-- What is promised of repairing a worn line, said of the call. Document 02, requests 13 and 14. A line comes as bytes. `earlier` is the vote before frame 0,
-- "here the same in send, repair, second run and readings"; levels 2, 3 and 4 do not look at it. `national` is the switch that sets national digits to 1.
-- Tributaries are counted from 0.
use Rattle.std.specs.Prelude.{◌≡◌, ◌≢◌, Bool, cond, true, false, not, ◌&&◌, List, [], ◌∷◌, map, ℕ, ◌+◌, ◌*◌, ◌-◌, ◌/◌, ◌%◌, ◌^◌, ◌<◌, length, get_or}
use Rattle.digits.specs.Digits.{digits_of, tab}
use Rattle.table.specs.declared.Row.{Row}
use Rattle.table.specs.Table.{level_of}
use Rattle.levels.specs.declared.places.ServiceDigit.{ServiceDigit}
use Rattle.levels.specs.declared.places.ServiceDigit.TheVariants.{RemoteAlarm, FirstNational, SecondNational, ThirdNational, Fixed}
use Rattle.levels.specs.declared.places.Kind.{Kind}
use Rattle.levels.specs.declared.places.Kind.TheVariants.{Word, Service, Control, Justification, Tributary}
use Rattle.levels.specs.Sizes.{on_level}
use Rattle.levels.specs.Places.{kind_at}
use Rattle.reading.specs.Reading.{noted}
use Rattle.tally.specs.Tally.{all_of, sums_of, differ_at}
use Rattle.promises.specs.Damage.{Damage}
use Rattle.promises.specs.Together.{Outcome, zeros, in_turn}
use Rattle.repair.specs.Repair.{Repaired}
use Rattle.repair.specs.Repair.{repaired, line_after, RepairMet}

-- an accepted repair, by the call's own statement: of this line it answered so, left that one, and refused nothing
pub record Repairs (level earlier : ℕ) (national : Bool) (line : List ℕ) (answer : Repaired) (left : List ℕ) : Type 0 where
  pub met : RepairMet level earlier national line answer left
  pub accepted : answer.refusal ≡ 0

-- ---- "The notes and tributaries read from the result are those read from the input."

-- a note with all its national bits 1: bits 5 and up, as many as the level has national digits; bits 0 to 4 are as they were
abbrev pub national_ones : Row → ℕ → ℕ
national_ones row note = note % 2 ^ 5 + 2 ^ 5 * (2 ^ row.nationals - 1)

-- the notes read from the result, by those read from the input; with the switch on "the notes read back then differ in those bits alone"
abbrev pub notes_again : Row → Bool → List ℕ → List ℕ
notes_again row national notes = cond national (map (national_ones row) notes) notes

-- what a reading of the result by the two calls in turn answers and leaves, by what it does of the input: no alignment digit differs any more, and no control
-- digit dissents; numbers of digits, quarters and refusals are the same
abbrev pub read_again : Row → Bool → Outcome → Outcome
read_again row national o =
    record {
      refusal = o.refusal;
      frame = o.frame;
      counts = o.counts;
      alignment = 0;
      dissent = zeros;
      notes = notes_again row national o.notes;
      buffer = o.buffer;
    }

-- whatever notes and buffer are lent; where the first call refuses the notes' number, both readings leave all as it was
pub record ReadsTheSame (row : Row) (level earlier : ℕ) (national : Bool) (line left : List ℕ) : Type 0 where
  pub accepted : (notes buffer : List ℕ) → (noted level line (length notes)).refusal ≡ 0
      → in_turn level earlier left notes buffer ≡ read_again row national (in_turn level earlier line notes buffer)
  pub refused : (notes buffer : List ℕ) → (noted level line (length notes)).refusal ≢ 0 → in_turn level earlier left notes buffer ≡ in_turn level earlier line notes buffer

abbrev pub ReadsTheSameAt : ℕ → ℕ → Bool → List ℕ → List ℕ → Type 0
ReadsTheSameAt level earlier national line left = on_level (level_of level) (λ (row : Row). ReadsTheSame row level earlier national line left) ⊥

-- ---- "A second run changes nothing."

-- nor does it count anything
abbrev pub nothing : Repaired
nothing = record { refusal = 0; word = 0; control = zeros; stuffing = zeros; national = 0 }

abbrev pub ChangesNothing : List ℕ → Repaired → List ℕ → Type 0
ChangesNothing left again last = (again ≡ nothing) × (last ≡ left)

-- ---- "A multiplexed line whose only damage is of demand 3's sort, service digits excepted, comes back exactly as it was sent."

abbrev pub is_national : ServiceDigit → Bool
is_national RemoteAlarm = false
is_national FirstNational = true
is_national SecondNational = true
is_national ThirdNational = true
is_national Fixed = false

-- the service digits that no repair changes: all of them, and with the switch on all but the national ones
abbrev pub unrepaired : Bool → ServiceDigit → Bool
unrepaired national s = not (national && is_national s)

-- received comes from sent, a line of F frames sent with these notes and the vote before them, by damage that leaves every such service digit
pub record Wear (row : Row) (earlier : ℕ) (national : Bool) (notes : List ℕ) (F : ℕ) (sent received : List ℕ) : Type 0 where
  pub damage : Damage row earlier notes F sent received
  pub service_kept : (p : ℕ) (s : ServiceDigit) → p < F * row.digits → kind_at row p ≡ Service s → unrepaired national s ≡ true
      → get_or received p 0 ≡ get_or sent p 0

abbrev pub WearAt : ℕ → ℕ → Bool → List ℕ → List ℕ → List ℕ → Type 0
WearAt level earlier national notes sent received =
    on_level (level_of level) (λ (row : Row). Wear row earlier national notes (length notes) (digits_of sent) (digits_of received)) ⊥

-- with the switch on the national digits may be worn too: damage of demand 3's sort that leaves every service digit that is no national one
pub record WearWithSwitch (row : Row) (earlier : ℕ) (notes : List ℕ) (F : ℕ) (sent received : List ℕ) : Type 0 where
  pub worn : Damage row earlier notes F sent received
  pub others_kept : (p : ℕ) (s : ServiceDigit) → p < F * row.digits → kind_at row p ≡ Service s → is_national s ≡ false → get_or sent p 0 ≡ get_or received p 0

abbrev pub WearWithSwitchAt : ℕ → ℕ → List ℕ → List ℕ → List ℕ → Type 0
WearWithSwitchAt level earlier notes sent received =
    on_level (level_of level) (λ (row : Row). WearWithSwitch row earlier notes (length notes) (digits_of sent) (digits_of received)) ⊥

-- any damage of demand 3's sort, its service digits put back: such lines are what wear leaves
abbrev pub is_service : Kind → Bool
is_service Word = false
is_service (Service s) = true
is_service Control = false
is_service (Justification sign) = false
is_service Tributary = false

abbrev pub service_put_back : Row → ℕ → List ℕ → List ℕ → List ℕ
service_put_back row F sent received = tab (F * row.digits) 0 (λ (p : ℕ). cond (is_service (kind_at row p)) (get_or sent p 0) (get_or received p 0))

-- ---- "how many digits it changed of each kind and tributary"

-- the fifteen sums that a comparison of input and result has (request 6), of which these are the answer's: no remote alarm digit and no ordinary digit changes
abbrev pub fifteen : Repaired → List ℕ
fifteen answer =
    let control : ℕ → ℕ = λ (j : ℕ). get_or answer.control j 0 in
    let stuffing : ℕ → ℕ = λ (j : ℕ). get_or answer.stuffing j 0 in
    answer.word
    ∷ 0
    ∷ answer.national
    ∷ control 0
    ∷ stuffing 0
    ∷ 0
    ∷ control 1
    ∷ stuffing 1
    ∷ 0
    ∷ control 2
    ∷ stuffing 2
    ∷ 0
    ∷ control 3
    ∷ stuffing 3
    ∷ 0
    ∷ []

-- and the numbers of the answer together
abbrev pub four_together : List ℕ → ℕ
four_together ns = get_or ns 0 0 + get_or ns 1 0 + get_or ns 2 0 + get_or ns 3 0

-- the counts are the digits in which input and result differ, by kind and tributary, and they add up to all of them
pub record CountsDiffering (row : Row) (line left : List ℕ) (answer : Repaired) : Type 0 where
  pub by_kind : sums_of row (differ_at line left) (8 * length line) ≡ fifteen answer
  pub all : all_of (differ_at line left) (8 * length line) ≡ answer.word + four_together answer.control + four_together answer.stuffing + answer.national

abbrev pub CountsDifferingAt : ℕ → List ℕ → List ℕ → Repaired → Type 0
CountsDifferingAt level line left answer = on_level (level_of level) (λ (row : Row). CountsDiffering row line left answer) ⊥

-- ---- "a switch that at levels 2 to 4 sets them to 1"

-- on a level without national digits the switch on does what it does off: the same answer, and the same line, refused or not
pub record SwitchIdle (level earlier : ℕ) (line : List ℕ) : Type 0 where
  pub answer : repaired level earlier true line ≡ repaired level earlier false line
  pub line_left : line_after level earlier true line ≡ line_after level earlier false line
