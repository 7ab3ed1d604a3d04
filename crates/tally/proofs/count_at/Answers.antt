-- `count_at`: the place's own sum has one more.
use mathlib.Core.Path.{refl}
use native.Mathlib.Omega.{arith}
use Rattle.tally.proofs.count_at.Goals as goal

pub overflow_add-sums : goal.overflow_add-sums
overflow_add-sums c = omega (arith, c.requires.1 c.number_at.result)

pub returns : goal.returns
returns c = rw (← c.number_at.ensures.0) refl
