-- The C call is the call behind it.
use mathlib.Core.Path.{◌∙◌, ap}
use Rattle.captures.specs.Captures.{Written}
use Rattle.spritbobbin.specs.Face.{written_answer}
use Rattle.spritbobbin.proofs.spritbobbin_capture_write.Goals as goal

pub returns : goal.returns
returns c =
    let e = c.write-written.ensures in
    (c.written_numbers-refusal.ensures.0 ∙ ap (λ (w : Written). w.refusal) e.0, e.1, c.written_numbers-refusal.ensures.1 ∙ ap written_answer e.0)
