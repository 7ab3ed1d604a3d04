-- After f turns the first f notes are delayed, and the rest are as they were (Delaying).
use native.Mathlib.Omega.{arith}
use Rattle.workbench.proofs.Delaying.{delaying-more, delaying-end}
use Rattle.workbench.proofs.delay.Goals as goal

pub loop-f-preserved : goal.loop-f-preserved
loop-f-preserved c =
    let l = c.loop-f in
    delaying-more _ _ _ l.f l.last _ l.late l.invariant (omega arith) (omega arith) c.decided_by.ensures

pub returns : goal.returns
returns c = delaying-end _ _ _ _ _ _ c.loop-f.invariant (omega arith)
