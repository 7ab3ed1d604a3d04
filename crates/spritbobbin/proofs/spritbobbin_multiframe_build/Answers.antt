-- The C call is the call behind it.
use mathlib.Core.Path.{◌∙◌, ap}
use Rattle.multiframe.specs.Calls.{Built}
use Rattle.spritbobbin.specs.Face.{built_answer}
use Rattle.spritbobbin.proofs.spritbobbin_multiframe_build.Goals as goal

pub returns : goal.returns
returns c =
    let e = c.build-built.ensures in
    (c.built_numbers-refusal.ensures.0 ∙ ap (λ (b : Built). b.refusal) e.0, e.1, c.built_numbers-refusal.ensures.1 ∙ ap built_answer e.0)
