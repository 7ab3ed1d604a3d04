-- `action_of` is `action_of`: by both votes where the level has negative places, else by the frame's own.
use mathlib.Core.Path.{sym, ◌∙◌}
use Rattle.levels.specs.Order.{action_of}
use Rattle.levels.proofs.order.action_of.Goals as goal

pub returns-then-has_negative : goal.returns-then-has_negative
unfolding action_of
returns-then-has_negative c = rw (c.by_both.ensures, sym c.has_negative.ensures ∙ c.if-has_negative.true, c.is_stuffed-own.ensures)

pub returns-else-has_negative : goal.returns-else-has_negative
unfolding action_of
returns-else-has_negative c = rw (c.by_own.ensures, sym c.has_negative.ensures ∙ c.if-has_negative.false, c.is_stuffed-own.ensures)
