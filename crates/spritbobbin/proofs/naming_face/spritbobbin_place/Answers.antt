-- The C call is the call behind it.
use mathlib.Core.Path.{◌∙◌, ap}
use Rattle.naming.specs.Frames.{Placed}
use Rattle.spritbobbin.specs.NamingFace.{place_answer}
use Rattle.spritbobbin.proofs.naming_face.spritbobbin_place.Goals as goal

pub returns : goal.returns
returns c =
    let e = c.place-found.ensures in
    (c.place_numbers-refusal.ensures.0 ∙ ap (λ (p : Placed). p.refusal) e, c.place_numbers-refusal.ensures.1 ∙ ap place_answer e)
