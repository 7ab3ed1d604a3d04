-- The C call is the call behind it.
use mathlib.Core.Path.{◌∙◌, ap}
use Rattle.swap.specs.Swap.{Swapped}
use Rattle.spritbobbin.specs.SwapFace.{swapped_answer}
use Rattle.spritbobbin.proofs.swap_face.spritbobbin_swap.Goals as goal

pub returns : goal.returns
returns c =
    let e = c.swap-done.ensures in
    (c.swapped_numbers-refusal.ensures.0 ∙ ap (λ (s : Swapped). s.refusal) e.0, e.1, c.swapped_numbers-refusal.ensures.1 ∙ ap swapped_answer e.0)
