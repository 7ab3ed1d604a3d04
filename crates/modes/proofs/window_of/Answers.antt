-- `window_of`: no number here is over twice 2 to the L, and the mask takes the remainder by 2 to the L.
use native.Mathlib.Omega.{arith}
use lib.Pow.{pow_mono}
use lib.Bits.{and_mask}
use Rattle.modes.specs.Modes.{window_of}
use Rattle.modes.proofs.window_of.Goals as goal

pub overflow_mul-result : goal.overflow_mul-result
overflow_mul-result c = omega (arith, pow_mono {i = c.args.row.len} {j = 12} (omega arith))

pub overflow_add-result : goal.overflow_add-result
overflow_add-result c = omega (arith, pow_mono {i = c.args.row.len} {j = 12} (omega arith))

pub returns : goal.returns
unfolding window_of
returns c = rw c.requires.1 (and_mask _ c.args.row.len)
