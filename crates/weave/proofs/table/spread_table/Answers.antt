-- The table has what `spread_of` says, entry by entry: by computation.
use mathlib.Core.Path.{refl}
use Rattle.digits.specs.Digits.{tab}
use Rattle.weave.specs.Weave.{spread_of}
use Rattle.weave.proofs.table.spread_table.Goals as goal

pub returns : goal.returns
unfolding tab spread_of
returns c = refl
