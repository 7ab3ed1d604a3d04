-- What the answer says beside what `judge` says of the same line, fed as one run to a fresh state.
use Rattle.std.specs.Prelude.{ℕ}
use Rattle.table.specs.declared.Row.{Row}
use Rattle.judge_promises.specs.Verdicts.{Index, right, late, early, Question}
use Rattle.verdict_blocks.specs.Blocks.{Block}
use Rattle.verdict.specs.Feed.{lent_to}
use Rattle.verdict_states.specs.States.{State}
use Rattle.verdict_promises.specs.Steady.{recorded, by_own, by_before, by_after}

-- the reading that goes with an index
abbrev pub by_index : Index → State → ℕ → Block
by_index right s j = by_own s j
by_index late s j = by_before s j
by_index early s j = by_after s j

-- a question to `judge` whose digits are given, as a recording: what was sent is the buffer, from the first digit on, and the vote after the line is unknown
abbrev pub as_recording : Row → ℕ → Question → State
as_recording row level q = recorded row level q.earlier 0 q.line 16 (lent_to q.buffer 0)
