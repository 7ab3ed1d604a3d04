-- `count` is `counted`: stretch by stretch, as far as each has room (proofs/Counts.antt, `Cut`).
use Rattle.pieces.proofs.Counts.{cut-none, cut-more, cut-end}
use Rattle.pieces.proofs.alarm.count.Goals as goal

pub loop-p-init : goal.loop-p-init
loop-p-init c = cut-none _ _ _ _ _ c.requires.1 c.requires.2

pub loop-p-preserved : goal.loop-p-preserved
loop-p-preserved c =
    let l = c.loop-p in
    let z = c.zeros_in.ensures in
    cut-more _ _ _ _ _ _ _ l.invariant _ _ _ c.requires.3 c.loop-p-test.true c.min-n.ensures z.0 z.1 c.add-s.ensures

pub returns : goal.returns
returns c = cut-end _ _ _ _ _ _ _ c.loop-p.invariant c.loop-p-test.false
