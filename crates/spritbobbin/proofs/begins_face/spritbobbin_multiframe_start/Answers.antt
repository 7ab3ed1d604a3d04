-- The C call is the call behind it.
use mathlib.Core.Path.{◌∙◌, ap}
use Rattle.multiframe_start.specs.Start.{Started}
use Rattle.spritbobbin.specs.BeginsFace.{start_answer}
use Rattle.spritbobbin.proofs.begins_face.spritbobbin_multiframe_start.Goals as goal

pub returns : goal.returns
returns c =
    let e = c.multiframe_start-found.ensures.0 in
    (c.start_numbers-refusal.ensures.0 ∙ ap (λ (p : Started). p.refusal) e, c.start_numbers-refusal.ensures.1 ∙ ap start_answer e)
