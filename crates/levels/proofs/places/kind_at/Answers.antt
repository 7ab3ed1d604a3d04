-- `kind_at` is `kind_at`: the kind of where the place stands.
use Rattle.levels.proofs.places.kind_at.Goals as goal

pub at_place-requires : goal.at_place-requires
at_place-requires c = c.requires

pub kind_of-requires : goal.kind_of-requires
kind_of-requires c = c.requires.0

pub returns : goal.returns
returns c = rw (c.kind_of.ensures, c.at_place.ensures)
