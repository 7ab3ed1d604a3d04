-- The C call is the call behind it.
use mathlib.Core.Path.{◌∙◌, ap}
use Rattle.levels.specs.Faults.{Counted}
use Rattle.spritbobbin.specs.Face.{counted_answer}
use Rattle.spritbobbin.proofs.spritbobbin_multiplex.Goals as goal

pub returns : goal.returns
returns c =
    let e = c.multiplex-sent.ensures in
    (c.sent_numbers-refusal.ensures.0 ∙ ap (λ (m : Counted). m.refusal) e.0, e.1, c.sent_numbers-refusal.ensures.1 ∙ ap counted_answer e.0)
