-- The C call is the call behind it.
use mathlib.Core.Path.{◌∙◌, ap}
use Rattle.receiver.specs.declared.Made.{Made}
use Rattle.receiver.specs.Numbers.{state_numbers}
use Rattle.spritbobbin.proofs.spritbobbin_receiver_fresh.Goals as goal

pub returns : goal.returns
returns c =
    let e = c.fresh-made.ensures in
    (ap (λ (m : Made). m.refusal) e, c.state_numbers.ensures ∙ ap (λ (m : Made). state_numbers m.state) e, ap (λ (m : Made). m.state.frame) e)
