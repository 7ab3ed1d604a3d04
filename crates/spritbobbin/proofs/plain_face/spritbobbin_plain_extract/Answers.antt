-- The C call is the call behind it.
use mathlib.Core.Path.{◌∙◌, ap}
use Rattle.engine.specs.Engine.{Answered}
use Rattle.spritbobbin.specs.PlainFace.{answered_answer}
use Rattle.spritbobbin.proofs.plain_face.spritbobbin_plain_extract.Goals as goal

pub returns : goal.returns
returns c =
    let e = c.extract-taken.ensures in
    (c.answered_numbers-refusal.ensures.0 ∙ ap (λ (a : Answered). a.refusal) e.answered, e.written, c.answered_numbers-refusal.ensures.1 ∙ ap answered_answer e.answered)
