-- `line_reader::line_digit` meets its contract: its test is the step's own `ended`.
-- Assumes nothing.
use Rattle.line_reader.proofs.line_digit.Goals as goal

pub returns-then-s : goal.returns-then-s
returns-then-s c = rw (← c.step_at-s.ensures, c.if-s.true)

pub returns-else-s : goal.returns-else-s
returns-else-s c = rw (← c.step_at-s.ensures, c.if-s.false)
