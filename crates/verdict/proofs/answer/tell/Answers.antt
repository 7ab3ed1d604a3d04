-- `tell`: what is told, put.
use mathlib.Core.Path.{◌∙◌}
use Rattle.verdict.proofs.answer.tell.Goals as goal

pub returns : goal.returns
returns c = c.put_told.ensures ∙ c.told_of.ensures
