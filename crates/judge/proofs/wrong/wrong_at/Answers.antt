-- `wrong_at`: against what was sent, or against the recurrence.
use native.Mathlib.Omega.{arith}
use Rattle.judge.proofs.wrong.wrong_at.Goals as goal

pub others_at-requires : goal.others_at-requires
others_at-requires c =
    let pre = c.requires in
    (omega (arith, pre.3), pre.1 c.if-pattern-eq0.true, pre.4, pre.5)

pub returns-then-pattern-eq0 : goal.returns-then-pattern-eq0
returns-then-pattern-eq0 c = rw c.if-pattern-eq0.true c.others_at.ensures

pub unmade_at-requires : goal.unmade_at-requires
unmade_at-requires c =
    let pre = c.requires in
    (c.if-pattern-eq0.false, pre.0, pre.2, pre.3, pre.4, pre.5)

pub returns-else-pattern-eq0 : goal.returns-else-pattern-eq0
returns-else-pattern-eq0 c = (c.unmade_at.ensures.0 _, c.unmade_at.ensures.1)
