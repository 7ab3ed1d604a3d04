-- After f turns the first f bytes of the column are put (Columns).
use mathlib.Core.Path.{◌∙◌}
use Prim.Native.Nat.{◌+◌, ◌*◌}
use native.Mathlib.Omega.{arith}
use lib.ListN.{get_or, length-set}
use Rattle.multiframe.proofs.Columns.{column-more}
use Rattle.multiframe.proofs.put_column.Goals as goal

pub loop-f-preserved : goal.loop-f-preserved
loop-f-preserved c =
    let l = c.loop-f in
    let a = c.args in
    (length-set l.multiframe (a.first + 32 * l.f) (get_or a.column.now l.f 0) ∙ l.invariant.0, column-more _ _ _ l.f l.multiframe (omega arith) l.invariant.1)
