-- The C call is the call behind it.
use mathlib.Core.Path.{◌∙◌, ap}
use Rattle.naming.specs.Multiframes.{MultiframePlaced}
use Rattle.spritbobbin.specs.NamingFace.{multiframe_answer}
use Rattle.spritbobbin.proofs.naming_face.spritbobbin_multiframe_place.Goals as goal

pub returns : goal.returns
returns c =
    let e = c.multiframe_place-found.ensures in
    (c.multiframe_numbers-refusal.ensures.0 ∙ ap (λ (p : MultiframePlaced). p.refusal) e, c.multiframe_numbers-refusal.ensures.1 ∙ ap multiframe_answer e)
