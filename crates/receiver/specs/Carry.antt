-- Digits in a hurry outside hunting: what an inner function of the run promises. What is left to do after it is what was to do before.
use Rattle.std.specs.Prelude.{◌≡◌, List, ℕ, ◌+◌, ◌-◌, ◌≤◌, ◌<◌}
use Rattle.table.specs.declared.Row.{Row}
use Rattle.digits.specs.Digits.{between}
use Rattle.modes.specs.declared.Core.{Core}
use Rattle.pieces.specs.declared.alarm.Stretch.{Stretch}
use Rattle.pieces.specs.Alarm.{counted}
use Rattle.digits.specs.Runs.{piece_of}
use Rattle.receiver.specs.Feed.{state_of, run_of}
use Rattle.modes.specs.Modes.{Valid}

-- from core c and frame f at digit p of a slice, of which the digits before `end` are to be taken, it went to core c' and frame f' at digit
-- at, and tested no word
pub record Carried (row : Row) (slice : List ℕ) (end p : ℕ) (c : Core) (f : List ℕ) (at : ℕ) (c' : Core) (f' : List ℕ) : Type 0 where
  pub valid : Valid row c'
  pub from : p ≤ at
  pub before : at < end
  pub same : (level taken words : ℕ) (st : Stretch)
      → run_of row (piece_of slice p (end - p)) taken words (state_of level c f st)
      ≡ run_of row (piece_of slice at (end - at)) (taken + (at - p)) words (state_of level c' f' (counted row st (between slice p at)))
