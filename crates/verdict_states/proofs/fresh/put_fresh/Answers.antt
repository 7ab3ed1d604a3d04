-- `put_fresh`: the fresh lanes, entered nowhere.
use mathlib.Core.Path.{◌∙◌}
use Rattle.digits.specs.Digits.{tab}
use Rattle.verdict_states.proofs.fresh.put_fresh.Goals as goal

pub returns : goal.returns
unfolding tab
returns c = c.put_block.ensures ∙ rw (c.fresh_standing.ensures, c.begin-v.ensures)
