-- `bad_tributary` is `bad_tributary`.
use borrow.Author.Tests.{eq-eqb, ne_eqb}
use Rattle.swap.proofs.bad_tributary.Goals as goal

pub returns-then-tributary-eq0 : goal.returns-then-tributary-eq0
returns-then-tributary-eq0 c = rw (eq-eqb _ _ c.if-tributary-eq0.true)

pub returns-else-tributary-eq0 : goal.returns-else-tributary-eq0
returns-else-tributary-eq0 c = rw (ne_eqb _ _ c.if-tributary-eq0.false)
