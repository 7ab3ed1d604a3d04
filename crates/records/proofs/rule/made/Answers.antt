-- What the list refuses first, then what making a fresh state gives.
use borrow.Author.Tests.{eq-eqb, ne_eqb}
use Rattle.records.proofs.rule.made.Goals as goal

pub returns-then-no-ne0 : goal.returns-then-no-ne0
returns-then-no-ne0 c =
    rw (← c.list_refusal-no.ensures, ne_eqb _ _ c.if-no-ne0.true, c.record_of-kept.ensures, c.fresh-fresh.ensures)

pub returns-else-no-ne0 : goal.returns-else-no-ne0
returns-else-no-ne0 c =
    rw (← c.list_refusal-no.ensures, eq-eqb _ _ c.if-no-ne0.false, c.record_of-kept.ensures, c.fresh-fresh.ensures)
