-- Demand 3 and the round trip, said of the calls. A call is lent a line, notes and a buffer, as bytes; what it leaves and answers is
-- given by the definitions that the statements of the calls cite. Reading is two calls in turn: `read_notes`, and `extract` by the notes that
-- it leaves. Of a send nothing is assumed but that it was accepted: that it answered refusal 0. A reading is lent enough, and that it is
-- accepted is part of what is said. `earlier` is the vote before frame 0, one for sends and readings alike; levels 2, 3 and 4 do not look at it.
-- Levels are the numbers 2, 3, 4, 12 and 14; tributaries are counted from 0.
use Rattle.std.specs.Prelude.{◌≡◌, false, List, [], ◌∷◌, ℕ, ◌*◌, ◌/◌, ◌%◌, ◌≤◌, ◌<◌, length, get_or, take}
use Rattle.digits.specs.Digits.{digits_of}
use Rattle.table.specs.declared.Row.{Row}
use Rattle.table.specs.Table.{level_of}
use Rattle.levels.specs.Sizes.{on_level, quarter_of}
use Rattle.levels.specs.Order.{decisions}
use Rattle.levels.specs.Faults.{unset, send_answered}
use Rattle.multiplex.specs.Multiplex.{line_after}
use Rattle.promises.specs.Damage.{Damage, SameBut, controls_changed}
use Rattle.promises.specs.Together.{Outcome, in_turn}

-- what is lent to a call, as it was at the call's entry
pub record Lent : Type 0 where
  pub line : List ℕ
  pub notes : List ℕ
  pub buffer : List ℕ

-- multiplexing: it was accepted; the line it leaves; the counts it answers; the digits of tributary j that it was given and counts
abbrev pub SendAccepted : ℕ → ℕ → Lent → Type 0
SendAccepted level earlier c = (send_answered level earlier (length c.line) c.notes (length c.buffer)).refusal ≡ 0

abbrev pub sent_line : ℕ → ℕ → Lent → List ℕ
sent_line level earlier c = line_after level earlier c.line c.notes c.buffer

abbrev pub sent_counts : ℕ → ℕ → Lent → List ℕ
sent_counts level earlier c = (send_answered level earlier (length c.line) c.notes (length c.buffer)).counts

abbrev pub sent_digits : ℕ → ℕ → Lent → ℕ → List ℕ
sent_digits level earlier c j = take (get_or (sent_counts level earlier c) j 0) (digits_of (quarter_of c.buffer j))

-- reading, by the two calls in turn: both were accepted; the notes and the buffer they leave; the counts they answer; the digits of tributary j
-- that they leave and count; how many digits of each tributary dissented
abbrev pub outcome : ℕ → ℕ → Lent → Outcome
outcome level earlier c = in_turn level earlier c.line c.notes c.buffer

abbrev pub ReadAccepted : ℕ → ℕ → Lent → Type 0
ReadAccepted level earlier c = (outcome level earlier c).refusal ≡ 0

abbrev pub read_notes : ℕ → ℕ → Lent → List ℕ
read_notes level earlier c = (outcome level earlier c).notes

abbrev pub read_counts : ℕ → ℕ → Lent → List ℕ
read_counts level earlier c = (outcome level earlier c).counts

abbrev pub read_digits : ℕ → ℕ → Lent → ℕ → List ℕ
read_digits level earlier c j = take (get_or (read_counts level earlier c) j 0) (digits_of (quarter_of (outcome level earlier c).buffer j))

abbrev pub read_dissent : ℕ → ℕ → Lent → List ℕ
read_dissent level earlier c = (outcome level earlier c).dissent

-- the level's national bits of every note are 1: multiplexing asks for them, reading reports them as they came
abbrev pub NationalsSetAt : ℕ → List ℕ → Type 0
NationalsSetAt level notes = on_level (level_of level) (λ (row : Row). (f : ℕ) → f < length notes → unset row (get_or notes f 0) ≡ false) ⊥

-- what a reading leaves, sent on: multiplexing is lent the notes and the buffer as the reading leaves them, and a line of that length
abbrev pub sent_on : ℕ → ℕ → Lent → Lent
sent_on level earlier c = record { line = c.line; notes = read_notes level earlier c; buffer = (outcome level earlier c).buffer }

-- a call for as many frames as another: it is lent as many notes, and four equal quarters, each with room for n digits of every frame; what
-- notes and buffer hold is no matter
pub record LentFor (n : ℕ) (one other : Lent) : Type 0 where
  pub noted : length other.notes ≡ length one.notes
  pub quarters : length other.buffer % 4 ≡ 0
  pub room : length one.notes * n ≤ 8 * (length other.buffer / 4)

abbrev pub LentAt : ℕ → Lent → Lent → Type 0
LentAt level one other = on_level (level_of level) (λ (row : Row). LentFor row.room one other) ⊥

-- received comes from sent, a line sent with these notes, by damage
abbrev pub DamageAt : ℕ → ℕ → List ℕ → List ℕ → List ℕ → Type 0
DamageAt level earlier notes sent received =
    on_level (level_of level) (λ (row : Row). Damage row earlier notes (length notes) (digits_of sent) (digits_of received)) ⊥

-- two lines that differ in places of tributary j only
abbrev pub SameButAt : ℕ → ℕ → List ℕ → List ℕ → Type 0
SameButAt level j line other = on_level (level_of level) (λ (row : Row). SameBut row j (digits_of line) (digits_of other)) ⊥

-- "both sends carried the same decisions and the same digits of every tributary, in order"
pub record SendsSame (level earlier : ℕ) (a b : Lent) : Type 0 where
  pub frames : length a.notes ≡ length b.notes
  pub decided : (j f : ℕ) → j < 4 → f < length a.notes → decisions a.notes j f ≡ decisions b.notes j f
  pub counted : sent_counts level earlier a ≡ sent_counts level earlier b
  pub digits : (j : ℕ) → j < 4 → sent_digits level earlier a j ≡ sent_digits level earlier b j

-- "and demultiplexing returns them": the two calls in turn
pub record SendReturned (level earlier : ℕ) (send read : Lent) : Type 0 where
  pub accepted : ReadAccepted level earlier read
  pub frames : length (read_notes level earlier read) ≡ length send.notes
  pub decided : (j f : ℕ) → j < 4 → f < length send.notes → decisions (read_notes level earlier read) j f ≡ decisions send.notes j f
  pub counted : read_counts level earlier read ≡ sent_counts level earlier send
  pub digits : (j : ℕ) → j < 4 → read_digits level earlier read j ≡ sent_digits level earlier send j

-- and how split each vote was: of every tributary as many digits dissent as its control digits were changed, between two lines of F frames
abbrev pub DissentAt : ℕ → List ℕ → ℕ → List ℕ → List ℕ → Type 0
DissentAt level dissent F sent received =
    on_level (level_of level) (λ (row : Row). (j : ℕ) → j < 4 → get_or dissent j 0 ≡ controls_changed row F (digits_of sent) (digits_of received) j) ⊥

-- the round trip: the whole notes too, and no error is counted
pub record SendBack (level earlier : ℕ) (send read : Lent) : Type 0 where
  pub noted : read_notes level earlier read ≡ send.notes
  pub returned : SendReturned level earlier send read
  pub aligned : (outcome level earlier read).alignment ≡ 0
  pub unanimous : read_dissent level earlier read ≡ 0 ∷ 0 ∷ 0 ∷ 0 ∷ []

-- "come out as before: digits, numbers of digits and decisions", of tributary k; "Demand 3's last part now covers dissent too"
pub record ReadsSame (level earlier k : ℕ) (a b : Lent) : Type 0 where
  pub accepted : ReadAccepted level earlier b
  pub frames : length (read_notes level earlier a) ≡ length (read_notes level earlier b)
  pub decided : (f : ℕ) → f < length a.notes → decisions (read_notes level earlier a) k f ≡ decisions (read_notes level earlier b) k f
  pub counted : get_or (read_counts level earlier a) k 0 ≡ get_or (read_counts level earlier b) k 0
  pub digits : read_digits level earlier a k ≡ read_digits level earlier b k
  pub dissenting : get_or (read_dissent level earlier a) k 0 ≡ get_or (read_dissent level earlier b) k 0
