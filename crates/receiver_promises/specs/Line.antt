-- A line of correct frames, begun anywhere in a frame.
use Rattle.std.specs.Prelude.{◌≡◌, List, ℕ, ◌+◌, ◌%◌, ◌<◌, length, get_or}
use Rattle.digits.specs.Digits.{written}
use Rattle.table.specs.declared.Row.{Row}

-- digit i of the line stands at this place of its frame, where the line's first digit stands at place o
abbrev pub in_frame : Row → ℕ → ℕ → ℕ
in_frame row o i = (o + i) % row.digits

-- the word's digits stand at the word's places, N digits apart. Nothing is asked of the other digits, which may all be ones, and a word cut by the
-- line's first or last digit is asked for as far as it is there
pub record Framed (row : Row) (o : ℕ) (ds : List ℕ) : Type 0 where
  pub words : (i : ℕ) → i < length ds → in_frame row o i < row.len → get_or ds i 0 ≡ get_or (written row.len row.word) (in_frame row o i) 0
