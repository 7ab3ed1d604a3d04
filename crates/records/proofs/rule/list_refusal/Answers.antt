-- 8 first, 2 next: each return rewrites with the tests that lead to it.
use borrow.Author.Tests.{lt-ltb, le-ltb, le-leb, lt-leb}
use Rattle.records.specs.Rule.{list_refusal}
use Rattle.records.proofs.rule.list_refusal.Goals as goal

pub returns-then-number-line : goal.returns-then-number-line
unfolding list_refusal
returns-then-number-line c = rw (le-leb _ _ c.if-number-line.true)

pub returns-then-number-gt64 : goal.returns-then-number-gt64
unfolding list_refusal
returns-then-number-gt64 c = rw (lt-leb _ _ c.if-number-line.false, lt-ltb _ _ c.if-number-gt64.true)

pub returns-else-number-gt64 : goal.returns-else-number-gt64
unfolding list_refusal
returns-else-number-gt64 c = rw (lt-leb _ _ c.if-number-line.false, le-ltb _ _ c.if-number-gt64.false)
