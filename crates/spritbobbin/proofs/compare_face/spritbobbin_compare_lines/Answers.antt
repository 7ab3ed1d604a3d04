-- The C call is the call behind it.
use mathlib.Core.Path.{◌∙◌, ap}
use Rattle.differing.specs.declared.Compared.{Compared}
use Rattle.spritbobbin.specs.Comparing.{lines_answer}
use Rattle.spritbobbin.proofs.compare_face.spritbobbin_compare_lines.Goals as goal

pub returns : goal.returns
returns c =
    let e = c.compare_lines-compared.ensures in
    (ap (λ (r : Compared). r.refusal) e.0, c.lines_numbers.ensures ∙ ap lines_answer e.0, e.1)
