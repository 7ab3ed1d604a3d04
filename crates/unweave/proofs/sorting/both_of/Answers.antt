-- `both_of` joins a row and the last digits of another.
use Rattle.unweave.proofs.Lanes.{joined}
use Rattle.unweave.proofs.sorting.both_of.Goals as goal

pub returns : goal.returns
returns c =
    let row_of = c.row_of in
    joined _ _ _ _ c.args.n c.requires.1 row_of.ensures.0 row_of.ensures.1 c.last_of.ensures.0 c.last_of.ensures.1
