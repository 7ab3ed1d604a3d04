-- The C call is the call behind it.
use mathlib.Core.Path.{◌∙◌, ap}
use Rattle.differing.specs.declared.Compared.{Compared}
use Rattle.spritbobbin.specs.Comparing.{compared_answer}
use Rattle.spritbobbin.proofs.compare_face.spritbobbin_compare.Goals as goal

pub returns : goal.returns
returns c =
    let e = c.compare-compared.ensures in
    (ap (λ (r : Compared). r.refusal) e.0, c.compared_numbers.ensures ∙ ap compared_answer e.0, e.1)
