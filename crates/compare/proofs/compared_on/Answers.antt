-- `compared_on`: the lines as they are lent are the lines of the readings.
use Rattle.compare.proofs.Files.{lent-lines, of_parts}
use Rattle.compare.proofs.compared_on.Goals as goal

pub counted_on-requires : goal.counted_on-requires
counted_on-requires c =
    let b = c.requires in
    lent-lines _ b.0 _ _ c.args.first c.args.second b.1 b.2 b.3 b.4 b.5

pub returns : goal.returns
returns c = of_parts _ _ _ c.args.first c.args.second _ _ c.counted_on.ensures
