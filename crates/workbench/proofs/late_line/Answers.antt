-- `said` and the line are multiplexed, each by its notes; an accepted line, which is short, then gets the control digits of `said` (Late).
use mathlib.Core.Path.{refl, ◌∙◌}
use Rattle.std.proofs.lemmas.Result.{err_from_is_err_and}
use Rattle.refusal.proofs.Numbers.{number-some}
use Rattle.workbench.proofs.Late.{late-refused, late-short, late-sent}
use Rattle.workbench.proofs.late_line.Goals as goal

pub returns-in_err-counts : goal.returns-in_err-counts
returns-in_err-counts c =
    let p = err_from_is_err_and c.from_residual.result c.from_residual.ensures.1 in
    let a = c.args in
    let line = c.in_err-counts in
    rw (p.1, p.2) (
      line.ensures.0,
      c.multiplex-right.ensures.1,
      rw line.ensures.1 (late-refused a.earlier a.line.now a.said.now a.notes.now a.late.now a.buffer.now a.level _ line.ensures.0 (number-some line.field-0.0.refusal)),
    )

pub say_controls_at-requires : goal.say_controls_at-requires
say_controls_at-requires c =
    let a = c.args in
    let line = c.in_ok-counts in
    rw c.multiplex.auto.line
    (late-short a.earlier a.line.now a.said.now a.notes.now a.late.now a.buffer.now a.level _ line.ensures.0 refl)

pub returns : goal.returns
returns c =
    let a = c.args in
    let said = c.multiplex-right in
    let line = c.in_ok-counts in (
      line.ensures.0,
      said.ensures.1,
      c.say_controls_at.ensures ∙ rw (said.ensures.1, line.ensures.1)
          (late-sent a.earlier a.line.now a.said.now a.notes.now a.late.now a.buffer.now a.level _ line.ensures.0 refl),
    )
