-- What is too long for its room is refused, by multiplexing (Lateness); else the bench makes the line.
use mathlib.Core.Path.{◌∙◌}
use native.Mathlib.Omega.{arith}
use Rattle.std.proofs.Common.{inl, inr}
use Rattle.table.specs.Table.{level_of}
use Rattle.levels.proofs.Rows.{shared-row}
use Rattle.late.proofs.Lateness.{long-answers, long-left}
use Rattle.late.proofs.late_multiplex.Goals as goal

pub returns-then-line-gt-BYTES : goal.returns-then-line-gt-BYTES
returns-then-line-gt-BYTES c =
    let a = c.args in
    let done = c.multiplex.ensures in (
      done.0
          ∙ long-answers a.earlier a.line.now a.notes.now a.buffer.now (λ h. elim c.if-line-gt-BYTES.either [ inl many ↦ omega (arith, many, h) | inr long ↦ long.1 ])
          (level_of a.level) (shared-row a.level),
      done.1
          ∙ long-left a.earlier a.line.now a.notes.now a.buffer.now (λ h. elim c.if-line-gt-BYTES.either [ inl many ↦ omega (arith, many, h) | inr long ↦ long.1 ])
          (level_of a.level) (shared-row a.level),
    )
