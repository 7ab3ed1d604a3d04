-- `place_after` is `place_after`.
use mathlib.Core.Path.{sym, ◌∙◌}
use Rattle.modes.specs.Modes.{place_after}
use Rattle.modes.proofs.place_after.Goals as goal

pub returns-then-is_hunting : goal.returns-then-is_hunting
unfolding place_after
returns-then-is_hunting c = rw (sym c.is_hunting.ensures ∙ c.if-is_hunting.true)

pub returns-else-is_hunting : goal.returns-else-is_hunting
unfolding place_after
returns-else-is_hunting c = rw (sym c.is_hunting.ensures ∙ c.if-is_hunting.false)
