-- What the inner functions count, between the loops and the call's definitions (specs/Wrong.antt, specs/Verdict.antt).
use Rattle.std.specs.Prelude.{◌≡◌, false, ◌≢◌, List, ℕ, ◌+◌, ◌*◌, ◌/◌, ◌≤◌, length, take, drop}
use Rattle.digits.specs.Sums.{sum_to}
use Rattle.table.specs.declared.Row.{Row}
use Rattle.levels.specs.Table.{Shared}
use Rattle.levels.specs.Sizes.{frames_of, Framed, Accepted}
use Rattle.levels.specs.Faults.{bad_earlier}
use Rattle.judge.specs.Readings.{majorities}
use Rattle.judge.specs.Wrong.{stage_of, wrong_at}

-- how many of the n digits behind a pattern's first are wrong; pattern 0 has no first digits
unfoldable pub wrong_among : ℕ → List ℕ → List ℕ → ℕ → ℕ
wrong_among pattern sent ds n = sum_to n (λ (k : ℕ). wrong_at pattern sent ds (pattern + k))

-- a pattern that is not refused: the stage that it feeds back lies before its last one
pub record Known (pattern : ℕ) : Type 0 where
  pub short : pattern ≤ 23
  pub stage : pattern ≢ 0 → stage_of pattern ≤ pattern

-- a call that is not refused: whole frames, a level's vote, a pattern that is known; and where digits were sent, quarters with room for them
pub record Judgeable (row : Row) (earlier : ℕ) (line : List ℕ) (pattern buffer : ℕ) : Type 0 where
  pub shared : Shared row
  pub framed : Framed row (length line) (frames_of row (length line))
  pub known : Known pattern
  pub sent : pattern ≡ 0 → frames_of row (length line) * row.room ≤ 8 * (buffer / 4)
  pub earlier_fits : bad_earlier row earlier ≡ false

-- a reading: the room lent for it is as extraction wants it, and what was sent, where it is digits, has room too
pub record Accepting (row : Row) (line : List ℕ) (pattern buffer room : ℕ) : Type 0 where
  pub shared : Shared row
  pub accepted : Accepted row (length line) (frames_of row (length line)) room
  pub known : Known pattern
  pub sent : pattern ≡ 0 → frames_of row (length line) * row.room ≤ 8 * (buffer / 4)

-- the votes of the line stand one after the other, with room for one before them and one behind
pub record Voted (row : Row) (line votes : List ℕ) : Type 0 where
  pub size : 66 ≡ length votes
  pub read : take (frames_of row (length line)) (drop 1 votes) ≡ majorities row line
