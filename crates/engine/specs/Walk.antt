-- What the plain engine's functions need of a row of the table and of a line, and what they carry along its places in sending and in
-- extraction alike. The specification of its calls is specs/Engine.antt; these lie between it and the loops.
use Rattle.std.specs.Prelude.{◌≡◌, List, ℕ, ◌+◌, ◌*◌, ◌≤◌, ◌<◌, length, get_or}
use Rattle.table.specs.declared.Row.{Row}
use Rattle.engine.specs.Engine.{count_to}

-- what the code needs of a row of the table
pub record Regular (row : Row) : Type 0 where
  pub packed : row.digits ≡ 8 * row.bytes
  pub some : 0 < row.bytes
  pub short : row.digits ≤ 4096
  pub sets : 0 < row.set
  pub word : row.len ≤ 16
  pub alarms : row.alarms ≤ 1
  pub national : row.national + row.nationals ≤ row.digits
  pub nationals : row.nationals ≤ 3
  pub alarmed : row.alarm < row.digits
  pub room : row.room ≤ 4096

-- a line of so many bytes is as many frames as there are notes, at most 64
pub record Fits (row : Row) (line notes : ℕ) : Type 0 where
  pub whole : 8 * line ≡ notes * row.digits
  pub few : notes ≤ 64

-- every element is a byte
abbrev pub Bytes : List ℕ → Type 0
Bytes bs = (i : ℕ) → get_or bs i 0 < 256

-- the four running indices before place p: each is the number of its tributary's next digit
pub record Counted (row : Row) (earlier : ℕ) (notes : List ℕ) (p : ℕ) (next : List ℕ) : Type 0 where
  pub four : length next ≡ 4
  pub each : (j : ℕ) → j < 4 → get_or next j 0 ≡ count_to row earlier notes j p
