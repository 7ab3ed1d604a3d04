-- The C call is the call behind it.
use mathlib.Core.Path.{◌∙◌, ap}
use Rattle.begins.specs.Begins.{Begun}
use Rattle.spritbobbin.specs.BeginsFace.{begun_answer}
use Rattle.spritbobbin.proofs.begins_face.spritbobbin_begins.Goals as goal

pub returns : goal.returns
returns c =
    let e = c.begins-found.ensures in
    (c.begun_numbers-refusal.ensures.0 ∙ ap (λ (p : Begun). p.refusal) e, c.begun_numbers-refusal.ensures.1 ∙ ap begun_answer e)
