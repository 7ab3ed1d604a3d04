-- `fresh` is `fresh_of`, whichever way the table answers.
use mathlib.Core.Path.{sym, ◌∙◌}
use Rattle.receiver.proofs.fresh.Goals as goal

pub returns-in-Some : goal.returns-in-Some
returns-in-Some c = rw (sym c.level_of.ensures ∙ c.in-Some.is, c.fresh_state.ensures)

pub returns-in-None : goal.returns-in-None
returns-in-None c = rw (sym c.level_of.ensures ∙ c.in-None.is, c.fresh_state-in-None.ensures)
