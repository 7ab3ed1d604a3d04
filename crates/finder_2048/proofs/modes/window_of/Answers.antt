-- `window_of`: the mask takes the remainder by 2 to the 7.
use lib.Bits.{and_mask}
use Rattle.finder_2048.specs.Modes.{window_of}
use Rattle.finder_2048.proofs.modes.window_of.Goals as goal

pub returns : goal.returns
unfolding window_of
returns c = and_mask _ 7
