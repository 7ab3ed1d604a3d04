-- What demand 3 says of a send and of the reading, over the level's row: "the same decisions and the same digits of every tributary, in order,
-- and demultiplexing returns them"; "the other three come out as before: digits, numbers of digits and decisions", and by request 2 dissent.
-- specs/Calls.antt says it of the calls, and of two sends. Tributaries are counted from 0. ds and es are the digits of lines of F frames.
use Rattle.std.specs.Prelude.{◌≡◌, Bool, false, List, ℕ, ◌+◌, ◌*◌, ◌/◌, ◌^◌, ◌≤◌, ◌<◌, length, get_or, take}
use Rattle.digits.specs.Digits.{Binary}
use Rattle.table.specs.declared.Row.{Row}
use Rattle.levels.specs.Places.{noted_of}
use Rattle.levels.specs.Order.{decisions, actions, count_of}
use Rattle.levels.specs.Faults.{unset}
use Rattle.reading.specs.Notes.{vote_at, notes_of, alignment_to, dissent_to}
use Rattle.extraction.specs.Quarters.{taken_to}

-- what a send with these notes, the vote before them and these tributaries' digits carries of tributary j: its number of digits, and its digits
abbrev pub count_sent : Row → ℕ → ℕ → List ℕ → ℕ → ℕ
count_sent row earlier F notes j = count_of row (actions row earlier notes j) F

abbrev pub digits_sent : Row → ℕ → ℕ → List ℕ → (ℕ → List ℕ) → ℕ → List ℕ
digits_sent row earlier F notes tributary j = take (count_sent row earlier F notes j) (tributary j)

-- what demultiplexing reads of tributary j: its decision in frame f, its number of digits, and its digits in order, from all the line's
-- columns, of which a frame has N / 4
abbrev pub decision_read : Row → ℕ → List ℕ → ℕ → ℕ → Bool
decision_read row F ds j f = decisions (notes_of row ds F) j f

abbrev pub count_read : Row → ℕ → ℕ → List ℕ → ℕ → ℕ
count_read row earlier F ds j = count_of row (actions row earlier (notes_of row ds F) j) F

abbrev pub digits_read : Row → ℕ → ℕ → List ℕ → ℕ → List ℕ
digits_read row earlier F ds j = taken_to row earlier (notes_of row ds F) ds j (F * (row.digits / 4))

-- every tributary has as many digits as F frames may ask for
abbrev pub Room : Row → ℕ → (ℕ → List ℕ) → Type 0
Room row F tributary = (j : ℕ) → j < 4 → F * row.room ≤ length (tributary j)

-- what an accepted send of F frames is: F notes without a bit that the level has not and with its national bits, all 1, and four tributaries of
-- digits with room
pub record Sound (row : Row) (F : ℕ) (notes : List ℕ) (tributary : ℕ → List ℕ) : Type 0 where
  pub all_noted : length notes ≡ F
  pub notes_fit : (f : ℕ) → f < F → get_or notes f 0 < 2 ^ (4 + noted_of row)
  pub nationals_set : (f : ℕ) → f < F → unset row (get_or notes f 0) ≡ false
  pub digits : (j : ℕ) → j < 4 → Binary (tributary j)
  pub room : Room row F tributary

-- demultiplexing returns what was sent
pub record Returned (row : Row) (earlier F : ℕ) (notes : List ℕ) (tributary : ℕ → List ℕ) (ds : List ℕ) : Type 0 where
  pub decided : (j f : ℕ) → j < 4 → f < F → decision_read row F ds j f ≡ decisions notes j f
  pub counted : (j : ℕ) → j < 4 → count_read row earlier F ds j ≡ count_sent row earlier F notes j
  pub digits : (j : ℕ) → j < 4 → digits_read row earlier F ds j ≡ digits_sent row earlier F notes tributary j

-- an undamaged line gives all of it back: the whole notes, and no error is counted
pub record CameBack (row : Row) (earlier F : ℕ) (notes : List ℕ) (tributary : ℕ → List ℕ) (ds : List ℕ) : Type 0 where
  pub noted : notes_of row ds F ≡ notes
  pub returned : Returned row earlier F notes tributary ds
  pub aligned : alignment_to row ds F ≡ 0
  pub unanimous : (j : ℕ) → j < 4 → dissent_to row ds j F ≡ 0

-- tributary k comes out of two lines as one: its votes, its decisions, its number of digits, its digits, its dissenting digits
pub record SameRead (row : Row) (earlier F k : ℕ) (ds es : List ℕ) : Type 0 where
  pub voted : (f : ℕ) → f < F → vote_at row ds f k ≡ vote_at row es f k
  pub decided : (f : ℕ) → f < F → decision_read row F ds k f ≡ decision_read row F es k f
  pub counted : count_read row earlier F ds k ≡ count_read row earlier F es k
  pub digits : digits_read row earlier F ds k ≡ digits_read row earlier F es k
  pub dissenting : dissent_to row ds k F ≡ dissent_to row es k F
