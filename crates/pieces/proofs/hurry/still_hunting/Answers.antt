-- `still_hunting`: the digits that came stop at L.
use Rattle.std.proofs.Common.{rules}
use Rattle.pieces.specs.Hunt.{still_hunting}
use Rattle.pieces.proofs.hurry.still_hunting.Goals as goal

pub returns : goal.returns
unfolding still_hunting
returns c = search rules
