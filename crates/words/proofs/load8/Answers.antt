-- `load8` joins two windows of 32 digits.
use Rattle.words.proofs.Loads.{load-eight}
use Rattle.words.proofs.load8.Goals as goal

pub returns : goal.returns
returns c =
    load-eight c.args.s.now c.args.at _ _ c.load4.ensures.0 c.load4-2.ensures.0 c.load4.ensures.1 c.load4-2.ensures.1
