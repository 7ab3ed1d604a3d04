-- `spread` reads the table at the digits.
use mathlib.Core.Path.{refl}
use native.Mathlib.Nat.{zero-add}
use Rattle.digits.proofs.Laws.{tab-at}
use Rattle.weave.specs.Weave.{spread_of}
use Rattle.weave.proofs.Weaving.{spread-lt}
use Rattle.weave.proofs.spread.Goals as goal

pub returns : goal.returns
returns c =
    let pre = c.requires in
    let x = c.args.x in
    rw (c.from.ensures, pre.0, tab-at 256 0 (spread_of 8) x pre.1, zero-add x) (refl, spread-lt 8 x)
