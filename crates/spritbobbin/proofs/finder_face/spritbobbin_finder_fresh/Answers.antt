-- The C call is the call behind it.
use mathlib.Core.Path.{refl, ap, ◌∙◌}
use Rattle.spritbobbin.specs.Finding.{state_numbers}
use Rattle.spritbobbin.proofs.finder_face.spritbobbin_finder_fresh.Goals as goal

pub returns : goal.returns
returns c = (refl, c.four_numbers.ensures ∙ ap state_numbers c.fresh.ensures)
