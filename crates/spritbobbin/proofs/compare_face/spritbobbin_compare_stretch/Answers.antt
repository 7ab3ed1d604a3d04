-- The C call is the call behind it.
use mathlib.Core.Path.{◌∙◌, ap}
use Rattle.compare.specs.declared.lines.Stretch.{Stretch}
use Rattle.spritbobbin.specs.Comparing.{stretch_answer}
use Rattle.spritbobbin.proofs.compare_face.spritbobbin_compare_stretch.Goals as goal

pub returns : goal.returns
returns c =
    let e = c.compare_stretch-counted.ensures in
    (ap (λ (r : Stretch). r.refusal) e, c.stretch_numbers.ensures ∙ ap stretch_answer e)
