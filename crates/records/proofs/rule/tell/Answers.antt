-- 2 for a list of more than 64, and the count.
use mathlib.Core.Path.{refl}
use borrow.Author.Tests.{lt-ltb, le-ltb}
use Rattle.records.specs.Rule.{count_refusal}
use Rattle.records.proofs.rule.tell.Goals as goal

pub returns-then-number-le64 : goal.returns-then-number-le64
unfolding count_refusal
returns-then-number-le64 c = rw (le-ltb _ _ c.if-number-le64.true) (refl, refl)

pub returns-else-number-le64 : goal.returns-else-number-le64
unfolding count_refusal
returns-else-number-le64 c = rw (lt-ltb _ _ c.if-number-le64.false) (refl, refl)
