-- A control digit is read in the one line, any other in the other.
use mathlib.Core.Path.{sym, ◌∙◌, ap}
use Rattle.workbench.specs.Bench.{is_control}
use Rattle.workbench.proofs.Bench.{mixed-said, mixed-line}
use Rattle.workbench.proofs.late_digit.Goals as goal

pub returns-then-is_control : goal.returns-then-is_control
returns-then-is_control c =
    (mixed-said _ _ _ _ _ (sym (ap is_control c.kind_at-kind.ensures) ∙ sym c.is_control.ensures ∙ c.if-is_control.true) c.digit_or_zero.ensures.0, c.digit_or_zero.ensures.1)

pub returns-else-is_control : goal.returns-else-is_control
returns-else-is_control c =
    (mixed-line _ _ _ _ _ (sym (ap is_control c.kind_at-kind.ensures) ∙ sym c.is_control.ensures ∙ c.if-is_control.false) c.digit_or_zero-else-is_control.ensures.0, c.digit_or_zero-else-is_control.ensures.1)
