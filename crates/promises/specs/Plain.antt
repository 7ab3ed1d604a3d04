-- Demand 3 with the numbers of a level in the statement, for a reader who has the documents' tables in hand and no other file. A frame has
-- N digits, and a tributary room for n of each; its first tributary place is head; the control digits of tributary j (from 0) are at j
-- after each number in controls, its (positive) justification digit at j after positive, its negative one, where the level has such places, at j after
-- the number in negatives; four places from each number in services on are service digits; most is how many digits of a control group may be
-- changed. earlier is the vote before frame 0, the same in both sends, in the reading, and before and after a change.
use Rattle.std.specs.Prelude.{◌≡◌, ◌≢◌, Bool, true, false, not, ◌&&◌, List, [], ◌∷◌, map, ℕ, ◌+◌, ◌*◌, ◌-◌, ◌%◌, ◌≤◌, ◌<◌, length, get_or}
use Rattle.digits.specs.Digits.{digits_of, differing}
use Rattle.digits.specs.Sums.{sum_to}
use Rattle.levels.specs.Order.{decisions}
use Rattle.promises.specs.Calls.{Lent, SendAccepted, sent_line, ReadAccepted, read_dissent, LentFor, SendsSame, SendReturned, ReadsSame}

-- the numbers of a level
pub record Numbers : Type 0 where
  pub N : ℕ
  pub n : ℕ
  pub head : ℕ
  pub controls : List ℕ
  pub services : List ℕ
  pub negatives : List ℕ
  pub positive : ℕ
  pub most : ℕ

-- place r is one of the four that begin at this number, or none of the four that begin at one of these
abbrev pub InFour : ℕ → ℕ → Type 0
InFour r start = (start ≤ r) × (r < start + 4)

abbrev pub OutOfFours : ℕ → List ℕ → Type 0
OutOfFours r starts = (i : ℕ) → i < length starts → InFour r (get_or starts i 0) → ⊥

-- the digits that stand at each of these numbers after place p
abbrev pub digits_after : List ℕ → ℕ → List ℕ → List ℕ
digits_after ds p places = map (λ (c : ℕ). get_or ds (p + c) 0) places

-- the positive place is stuffed: by the frame's own vote, and where the level has negative places by the preceding frame's too
abbrev pub stuffs : List ℕ → ℕ → List ℕ → ℕ → ℕ → Bool
stuffs [] earlier notes j f = decisions notes j f
stuffs (_ ∷ _) earlier notes j f = decisions (earlier ∷ notes) j f && decisions notes j f

-- the negative place carries a digit: both votes are 0
abbrev pub negative_carries : ℕ → List ℕ → ℕ → ℕ → Bool
negative_carries earlier notes j f = not (decisions (earlier ∷ notes) j f) && not (decisions notes j f)

-- the line received comes from the line of this send by changes at will but for these: a digit from the head on that is no control digit, no
-- service digit and no justification digit that carries nothing is as it was sent; and of the control digits of a tributary in a frame at most so
-- many differ
pub record Changed (level earlier : ℕ) (l : Numbers) (send : Lent) (received : List ℕ) : Type 0 where
  pub size : length (digits_of received) ≡ length send.notes * l.N
  pub kept : (f r : ℕ) → f < length send.notes → l.head ≤ r → r < l.N → OutOfFours r l.controls → OutOfFours r l.services
      → (InFour r l.positive → stuffs l.negatives earlier send.notes (r - l.positive) f ≡ false)
      → ((i : ℕ) → i < length l.negatives → InFour r (get_or l.negatives i 0) → negative_carries earlier send.notes (r - get_or l.negatives i 0) f ≡ true)
      → get_or (digits_of received) (f * l.N + r) 0 ≡ get_or (digits_of (sent_line level earlier send)) (f * l.N + r) 0
  pub few : (f j : ℕ) → f < length send.notes → j < 4
      → differing (digits_after (digits_of (sent_line level earlier send)) (f * l.N + j) l.controls) (digits_after (digits_of received) (f * l.N + j) l.controls) ≤ l.most

-- how many control digits of tributary j differ between two lines of F frames
abbrev pub controls_differing : Numbers → ℕ → List ℕ → List ℕ → ℕ → ℕ
controls_differing l F sent received j =
    sum_to F (λ (f : ℕ). differing (digits_after sent (f * l.N + j) l.controls) (digits_after received (f * l.N + j) l.controls))

-- two lines with the same digit at every place whose remainder by four is not j. Tributary j's own places have the remainder j, so whatever
-- is changed in them is allowed, and a change of the head's places of that remainder too
abbrev pub SameOutside : ℕ → List ℕ → List ℕ → Type 0
SameOutside j line other = (p : ℕ) → p < length (digits_of line) → p % 4 ≢ j → get_or (digits_of line) p 0 ≡ get_or (digits_of other) p 0

-- the whole of demand 3 at one level
pub record DemandThree (level : ℕ) (l : Numbers) : Type 0 where
  -- "Take two accepted sends of one level and one frame count. Change each line [..] If the changed lines are then equal, both sends
  -- carried the same decisions and the same digits of every tributary, in order," That the frame count is one follows from equal lines
  pub same : (earlier : ℕ) (a b : Lent) (received other : List ℕ) → SendAccepted level earlier a → SendAccepted level earlier b
      → Changed level earlier l a received → Changed level earlier l b other → received ≡ other → SendsSame level earlier a b
  -- "and demultiplexing returns them.": it is accepted if it is lent as many notes, and quarters with room for n digits of each frame
  pub returned : (earlier : ℕ) (send read : Lent) → SendAccepted level earlier send → LentFor l.n send read → Changed level earlier l send read.line
      → SendReturned level earlier send read
  -- and of every tributary as many digits dissent as its control digits were changed
  pub dissent : (earlier : ℕ) (send read : Lent) → SendAccepted level earlier send → LentFor l.n send read → Changed level earlier l send read.line → (j : ℕ) → j < 4
      → get_or (read_dissent level earlier read) j 0 ≡ controls_differing l (length send.notes) (digits_of (sent_line level earlier send)) (digits_of read.line) j
  -- "Further, in any line, whatever is changed in one tributary's own places, the other three come out as before"
  pub others : (earlier j k : ℕ) (a b : Lent) → ReadAccepted level earlier a → LentFor l.n a b → length a.line ≡ length b.line → SameOutside j a.line b.line
      → k < 4 → k ≢ j → ReadsSame level earlier k a b
