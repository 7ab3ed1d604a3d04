-- What a verdict says of the multiplexer that made a line. A multiplexer says its decisions in the control digits of their own frames; it is right where a frame
-- acts on them, late where it acts on those of the frame before, early where on those of the frame after. Tributaries are counted from 0.
use Rattle.std.specs.Prelude.{◌≡◌, cond, true, List, ℕ, ◌*◌, ◌/◌, ◌%◌, ◌≤◌, ◌<◌, length, get_or, take, drop}
use Rattle.digits.specs.Digits.{digits_of, tab}
use Rattle.table.specs.declared.Row.{Row}
use Rattle.table.specs.Table.{level_of}
use Rattle.levels.specs.Sizes.{on_level, frames_of, quarter_of}
use Rattle.levels.specs.Places.{kind_at}
use Rattle.levels.specs.Order.{has_negative, stuffed, decisions}
use Rattle.levels.specs.Line.{line_digit}
use Rattle.promises.specs.Damage.{Damage}
use Rattle.promises.specs.Carried.{Room}
use Rattle.workbench.specs.Bench.{is_control}
use Rattle.judge.specs.Verdict.{Judged}
use Rattle.judge.specs.Readings.{majorities, read_by, own_votes, before_votes, after_votes}
use Rattle.judge.specs.Wrong.{due_at, wrong_in}
use Rattle.judge.specs.Verdict.{judged}

-- where a multiplexer's frame index stands
pub data Index : Type 0 where
  right late early : Index

-- the votes that it acts on, where it says these notes: the vote before frame 0, then each frame's. The one that no frame of the line says is unknown
abbrev pub acts_on : Row → Index → ℕ → List ℕ → ℕ → List ℕ
acts_on row right earlier notes unknown = own_votes earlier notes
acts_on row late earlier notes unknown = before_votes row earlier notes unknown
acts_on row early earlier notes unknown = after_votes notes unknown

-- place p of the line of a multiplexer that says these notes and acts on these votes: its control digits are those that multiplexing makes of the notes, all
-- others those that it makes of the votes
unfoldable pub acted_digit : Row → ℕ → List ℕ → List ℕ → (ℕ → List ℕ) → ℕ → ℕ
acted_digit row earlier notes votes tributary p =
    cond (is_control (kind_at row p)) (line_digit row earlier notes tributary p) (line_digit row (get_or votes 0 0) (drop 1 votes) tributary p)

-- the digits of its line, a frame for each note
abbrev pub acted_line : Row → ℕ → List ℕ → List ℕ → (ℕ → List ℕ) → List ℕ
acted_line row earlier notes votes tributary = tab (length notes * row.digits) 0 (acted_digit row earlier notes votes tributary)

-- such a multiplexer made this line of these tributaries' digits, and on its way no more was changed than demand 3 allows: alignment and service digits, the digits of
-- places that carry none by what it acted on, and of each control group fewer than half
pub record Made (row : Row) (index : Index) (earlier : ℕ) (tributary : ℕ → List ℕ) (line : List ℕ) : Type 0 where
  pub notes : List ℕ
  pub unknown : ℕ
  pub frames : length notes ≡ frames_of row (length line)
  pub room : Room row (length notes) tributary
  pub damage :
      Damage row (get_or (acts_on row index earlier notes unknown) 0 0) (drop 1 (acts_on row index earlier notes unknown)) (length notes)
      (acted_line row earlier notes (acts_on row index earlier notes unknown) tributary) (digits_of line)

abbrev pub MadeAt : ℕ → Index → ℕ → (ℕ → List ℕ) → List ℕ → Type 0
MadeAt level index earlier tributary line = on_level (level_of level) (λ (row : Row). Made row index earlier tributary line) ⊥

-- digits that are what was sent: with pattern 0 those that were given, with another those that meet its recurrence from any beginning
abbrev pub AsSent : ℕ → List ℕ → List ℕ → Type 0
AsSent pattern sent ds = (i : ℕ) → pattern ≤ i → i < length ds → get_or ds i 0 ≡ due_at pattern sent ds i

-- the four tributaries' digits are what was sent; the quarters of the buffer hold what is given
abbrev pub AllAsSent : ℕ → List ℕ → (ℕ → List ℕ) → Type 0
AllAsSent pattern buffer tributary = (j : ℕ) → j < 4 → AsSent pattern (digits_of (quarter_of buffer j)) (tributary j)

-- what is judged: a vote before frame 0, a line, a pattern and a buffer
pub record Question : Type 0 where
  pub earlier : ℕ
  pub line : List ℕ
  pub pattern : ℕ
  pub buffer : List ℕ

abbrev pub verdict : ℕ → Question → Judged
verdict level q = judged level q.earlier q.line q.pattern q.buffer

abbrev pub JudgeAccepted : ℕ → Question → Type 0
JudgeAccepted level q = (verdict level q).refusal ≡ 0

-- the wrong digits of tributary j by the reading that goes with an index, and the number for it among those that fit
abbrev pub wrong_by : Index → Judged → ℕ → ℕ
wrong_by right answer j = get_or answer.own j 0
wrong_by late answer j = get_or answer.before j 0
wrong_by early answer j = get_or answer.after j 0

abbrev pub worth : Index → ℕ
worth right = 1
worth late = 2
worth early = 4

-- that reading fits: it has no wrong digit, and the answer says so
pub record Fits (index : Index) (answer : Judged) (j : ℕ) : Type 0 where
  pub none_wrong : wrong_by index answer j ≡ 0
  pub said : get_or answer.fits j 0 / worth index % 2 ≡ 1

-- tributary j's decision never changes along the line, as the answer says; and where frame 0 looks at the vote before it, it does not differ from that vote
pub record NeverChanges (row : Row) (q : Question) (answer : Judged) (j : ℕ) : Type 0 where
  pub in_the_line : get_or answer.changes j 0 ≡ 0
  pub nor_before : has_negative row ≡ true → 0 < frames_of row (length q.line) → stuffed q.earlier j ≡ decisions (majorities row q.line) j 0

abbrev pub NeverChangesAt : ℕ → Question → ℕ → Type 0
NeverChangesAt level q j = on_level (level_of level) (λ (row : Row). NeverChanges row q (verdict level q) j) ⊥

-- the digits of tributary j, read by some votes, and that none of them is wrong
abbrev pub ReadsRight : Row → Question → List ℕ → ℕ → Type 0
ReadsRight row q votes j = wrong_in q.pattern (digits_of (quarter_of q.buffer j)) (read_by row q.line votes j) ≡ 0

-- one list is the beginning of another
abbrev pub Begins : List ℕ → List ℕ → Type 0
Begins xs ys = xs ≡ take (length xs) ys

-- of two readings without a wrong digit, by whatever votes, the one that is not longer is the beginning of the other
abbrev pub OneBegins : ℕ → Question → ℕ → Type 0
OneBegins level q j =
    on_level (level_of level)
    (λ (row : Row).
    (v w : List ℕ) → ReadsRight row q v j → ReadsRight row q w j → length (read_by row q.line v j) ≤ length (read_by row q.line w j)
    → Begins (read_by row q.line v j) (read_by row q.line w j))
    ⊥
