-- The C call is the call behind it.
use mathlib.Core.Path.{◌∙◌, ap}
use Rattle.reading.specs.Reading.{Noted}
use Rattle.spritbobbin.specs.Face.{noted_answer}
use Rattle.spritbobbin.proofs.spritbobbin_read_notes.Goals as goal

pub returns : goal.returns
returns c =
    let e = c.read_notes-read.ensures in
    (c.errors_numbers-refusal.ensures.0 ∙ ap (λ (n : Noted). n.refusal) e.0, e.1, c.errors_numbers-refusal.ensures.1 ∙ ap noted_answer e.0)
