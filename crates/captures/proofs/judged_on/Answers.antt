-- A line that is found bad is refused with 2.
use mathlib.Core.Path.{sym, ◌∙◌}
use Rattle.captures.proofs.judged_on.Goals as goal

pub returns-then-bad_line : goal.returns-then-bad_line
returns-then-bad_line c = rw (sym c.bad_line.ensures ∙ c.if-bad_line.true, c.unread_at.ensures)

pub returns : goal.returns
returns c = rw (sym c.bad_line.ensures ∙ c.if-bad_line.false)
