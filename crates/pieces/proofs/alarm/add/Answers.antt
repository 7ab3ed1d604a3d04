-- `add` is `added`: the stretch ends, or it does not.
use borrow.Author.Tests.{eq-eqb, ne_eqb}
use Rattle.pieces.specs.Alarm.{added}
use Rattle.pieces.proofs.alarm.add.Goals as goal

pub returns-then-st-n : goal.returns-then-st-n
unfolding added
returns-then-st-n c = rw (eq-eqb _ _ c.if-st-n.true, c.alarm_after-alarm.ensures)

pub returns-else-st-n : goal.returns-else-st-n
unfolding added
returns-else-st-n c = rw (ne_eqb _ _ c.if-st-n.false)
