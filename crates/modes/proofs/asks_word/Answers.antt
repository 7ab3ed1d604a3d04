-- `asks_word` is `asks`, a test for hunting and one for the other modes.
use mathlib.Core.Path.{sym, ◌∙◌}
use Rattle.modes.specs.Modes.{asks}
use Rattle.modes.proofs.asks_word.Goals as goal

pub returns-then-is_hunting : goal.returns-then-is_hunting
unfolding asks
returns-then-is_hunting c = rw (sym c.is_hunting.ensures ∙ c.if-is_hunting.true)

pub returns-else-is_hunting : goal.returns-else-is_hunting
unfolding asks
returns-else-is_hunting c = rw (sym c.is_hunting.ensures ∙ c.if-is_hunting.false)
