-- The C call is the call behind it.
use mathlib.Core.Path.{◌∙◌, ap}
use Rattle.captures.specs.declared.Reading.{Reading}
use Rattle.spritbobbin.specs.Face.{read_answer}
use Rattle.spritbobbin.proofs.spritbobbin_capture_read.Goals as goal

pub returns : goal.returns
returns c =
    let e = c.read-reading.ensures in
    (ap (λ (r : Reading). r.refusal) e, c.read_numbers.ensures ∙ ap read_answer e)
