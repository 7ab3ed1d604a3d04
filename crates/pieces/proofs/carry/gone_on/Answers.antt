-- `gone_on` is `gone_on`.
use mathlib.Core.Path.{refl}
use Rattle.pieces.specs.Carry.{gone_on}
use Rattle.pieces.proofs.carry.gone_on.Goals as goal

pub returns : goal.returns
unfolding gone_on
returns c = rw c.window_over-window.ensures (refl, refl)
