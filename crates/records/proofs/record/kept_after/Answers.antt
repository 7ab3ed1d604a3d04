-- Under a refusal the record stays; else it is the record of the state after the piece.
use borrow.Author.Tests.{eq-eqb, ne_eqb}
use Rattle.records.proofs.record.kept_after.Goals as goal

pub returns-then-refusal-ne0 : goal.returns-then-refusal-ne0
returns-then-refusal-ne0 c = rw (ne_eqb _ _ c.if-refusal-ne0.true)

pub returns-else-refusal-ne0 : goal.returns-else-refusal-ne0
returns-else-refusal-ne0 c = rw (eq-eqb _ _ c.if-refusal-ne0.false, c.record_of.ensures)
