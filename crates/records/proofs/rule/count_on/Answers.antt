-- One more if the mode is aligned.
use native.Mathlib.Omega.{arith}
use mathlib.Core.Path.{sym, ◌∙◌}
use Rattle.records.proofs.rule.count_on.Goals as goal

pub returns-then-is_aligned : goal.returns-then-is_aligned
returns-then-is_aligned c = rw (sym c.is_aligned.ensures ∙ c.if-is_aligned.true)

pub returns-else-is_aligned : goal.returns-else-is_aligned
returns-else-is_aligned c = rw (sym c.is_aligned.ensures ∙ c.if-is_aligned.false) (omega arith)
