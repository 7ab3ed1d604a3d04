-- `fresh_fault`: 13, then 5.
use mathlib.Core.Path.{sym, ◌∙◌}
use Rattle.verdict_states.specs.States.{fresh_fault}
use Rattle.verdict_states.proofs.fresh.fresh_fault.Goals as goal

pub returns-then-bad_pattern : goal.returns-then-bad_pattern
unfolding fresh_fault
returns-then-bad_pattern c = rw (sym c.bad_pattern.ensures ∙ c.if-bad_pattern.true)

pub returns-then-bad_earlier : goal.returns-then-bad_earlier
unfolding fresh_fault
returns-then-bad_earlier c = rw (sym c.bad_pattern.ensures ∙ c.if-bad_pattern.false, sym c.bad_earlier.ensures ∙ c.if-bad_earlier.true)

pub returns-else-bad_earlier : goal.returns-else-bad_earlier
unfolding fresh_fault
returns-else-bad_earlier c = rw (sym c.bad_pattern.ensures ∙ c.if-bad_pattern.false, sym c.bad_earlier.ensures ∙ c.if-bad_earlier.false)
