-- What the theorems speak of is there: the line of each multiplexer, of any decisions and any digits, and each pattern's digits.
use Rattle.std.specs.Prelude.{◌≡◌, List, [], ◌∷◌, ◌++◌, ℕ, zero, suc, ◌+◌, ◌*◌, ◌<◌, length, get_or, replicate}
use Rattle.digits.specs.Digits.{bytes_of}
use Rattle.table.specs.declared.Row.{Row}
use Rattle.judge.specs.Wrong.{made_from}
use Rattle.judge_promises.specs.Verdicts.{Index, acts_on, acted_line, AllAsSent, Question, JudgeAccepted, MadeAt}

-- the bytes of the line of a multiplexer with this index, as it left it
abbrev pub made_line : Row → Index → ℕ → List ℕ → ℕ → (ℕ → List ℕ) → List ℕ
made_line row index earlier notes unknown tributary =
    bytes_of (length notes * row.bytes) (acted_line row earlier notes (acts_on row index earlier notes unknown) tributary)

-- a pattern that begins with these digits: n more, each made of those before it
unfoldable pub grown : ℕ → List ℕ → ℕ → List ℕ
grown pattern first zero = first
grown pattern first (suc n) = grown pattern first n ++ (made_from pattern (grown pattern first n) (length (grown pattern first n)) ∷ [])

-- from as many zeros as it has stages
abbrev pub from_zeros : ℕ → ℕ → List ℕ
from_zeros pattern n = grown pattern (replicate {A = ℕ} pattern 0) n

-- a line that the theorems on an index and a pattern speak of: it is judged, such a multiplexer made it, and of digits of the pattern
pub record Shown (level : ℕ) (index : Index) (pattern earlier : ℕ) : Type 0 where
  pub question : Question
  pub tributary : ℕ → List ℕ
  pub same_pattern : question.pattern ≡ pattern
  pub accepted : JudgeAccepted level question
  pub as_sent : AllAsSent pattern question.buffer tributary
  pub made : MadeAt level index question.earlier tributary question.line

-- the n digits from place a on are zeros
abbrev pub Zeros : List ℕ → ℕ → ℕ → Type 0
Zeros ds a n = (i : ℕ) → i < n → get_or ds (a + i) 0 ≡ 0
