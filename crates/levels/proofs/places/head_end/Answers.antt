-- `head_end` is `head_end`: the head of the first set, of the last, or of a set between.
use borrow.Author.Tests.{eq-eqb, ne_eqb}
use Rattle.levels.specs.Places.{head_end}
use Rattle.levels.proofs.places.head_end.Goals as goal

pub returns-then-set-eq0 : goal.returns-then-set-eq0
unfolding head_end
returns-then-set-eq0 c = rw (eq-eqb _ _ c.if-set-eq0.true)

pub returns-then-set-row : goal.returns-then-set-row
unfolding head_end
returns-then-set-row c = rw (ne_eqb _ _ c.if-set-eq0.false, eq-eqb _ _ c.if-set-row.true)

pub returns-else-set-row : goal.returns-else-set-row
unfolding head_end
returns-else-set-row c = rw (ne_eqb _ _ c.if-set-eq0.false, ne_eqb _ _ c.if-set-row.false)
