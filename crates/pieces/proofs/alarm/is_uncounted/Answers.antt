-- `is_uncounted` is `uncounted`: the two items in order.
use borrow.Author.Tests.{le-leb, lt-leb}
use Rattle.pieces.specs.Alarm.{uncounted}
use Rattle.pieces.proofs.alarm.is_uncounted.Goals as goal

pub returns-then-row-st : goal.returns-then-row-st
unfolding uncounted
returns-then-row-st c = rw (le-leb _ _ c.if-row-st.true)

pub returns-else-row-st : goal.returns-else-row-st
unfolding uncounted
returns-else-row-st c = rw (lt-leb _ _ c.if-row-st.false)
