-- `is_good` compares the window with the row's word.
use mathlib.Core.Path.{refl}
use Rattle.modes.specs.Modes.{good}
use Rattle.modes.proofs.is_good.Goals as goal

pub returns : goal.returns
unfolding good
returns c = refl
