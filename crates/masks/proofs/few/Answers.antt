-- `few`: the digits of both lines, side by side.
use mathlib.Core.Path.{refl}
use Rattle.masks.proofs.few.Goals as goal

pub returns : goal.returns
returns c = rw (c.read_digits.ensures.0, c.read_digits-2.ensures.0) refl
