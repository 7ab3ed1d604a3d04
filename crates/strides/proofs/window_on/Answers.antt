-- `window_on`: a window below 2 to the 12 does not wrap, and the mask is the remainder.
use lib.Bits.{and_mask}
use Rattle.strides.specs.Strides.{window_on}
use Rattle.strides.proofs.window_on.Goals as goal

pub returns : goal.returns
unfolding window_on
returns c = rw c.requires.1 (and_mask _ c.args.len)
