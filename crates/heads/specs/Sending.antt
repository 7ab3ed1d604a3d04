-- A line on its way: what is out after so many of its digits. Heads leave it, and so do the runs between them (crate multiplex).
use Rattle.std.specs.Prelude.{◌≡◌, List, ℕ, ◌+◌, ◌*◌, ◌-◌, ◌/◌, ◌<◌, length, get_or}
use Rattle.digits.specs.Digits.{tab}
use Rattle.words.specs.declared.Writer.{Writer}
use Rattle.words.specs.Words.{Ready, out_from}
use Rattle.table.specs.declared.Row.{Row}
use Rattle.levels.specs.Order.{actions, before}
use Rattle.levels.specs.Sizes.{Fits}
use Rattle.levels.specs.Line.{line_digit}
use Rattle.heads.specs.Columns.{tributary_of}

-- p digits of the line are out, and each tributary's next digit is the one that its next place may carry: tributary j has had
-- (p + 3 - j) / 4 of the first p places
pub record Sent (row : Row) (earlier : ℕ) (notes buffer : List ℕ) (p : ℕ) (next out : List ℕ) : Type 0 where
  pub four : length next ≡ 4
  pub index : (j : ℕ) → j < 4 → get_or next j 0 ≡ before row (actions row earlier notes j) j ((p + 3 - j) / 4)
  pub digits : out ≡ tab p 0 (line_digit row earlier notes (tributary_of buffer))

-- the same of what a writer has put into a line that has room for all frames
pub record Sending (row : Row) (earlier : ℕ) (notes buffer : List ℕ) (p : ℕ) (line : List ℕ) (w : Writer) (next : List ℕ) : Type 0 where
  pub fits : Fits row (length line) (length notes) (length buffer / 4)
  pub ready : Ready w.fill w.held
  pub place : 8 * w.at + w.fill ≡ p
  pub sent : Sent row earlier notes buffer p next (out_from 0 line w)
