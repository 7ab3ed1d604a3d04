-- None of a list of more than 64, else all.
use borrow.Author.Tests.{lt-ltb, le-ltb}
use Rattle.records.specs.Rule.{counted_to}
use Rattle.records.proofs.rule.counted.Goals as goal

pub returns-then-number-le64 : goal.returns-then-number-le64
unfolding counted_to
returns-then-number-le64 c = rw (le-ltb _ _ c.if-number-le64.true)

pub returns-else-number-le64 : goal.returns-else-number-le64
unfolding counted_to
returns-else-number-le64 c = rw (lt-ltb _ _ c.if-number-le64.false)
