-- `after_line` is `after_line`: the file ends, or a label follows, or the field at fault is named.
use mathlib.Core.Path.{◌≡◌, sym, ◌∙◌}
use mathlib.Core.Bool.{false}
use borrow.Author.Tests.{eq-eqb, ne_eqb}
use Rattle.captures.specs.Captures.{field_at, after_line}
use Rattle.captures.proofs.after_line.Goals as goal

pub returns-then-p-file : goal.returns-then-p-file
unfolding after_line
returns-then-p-file c = rw (eq-eqb _ _ c.if-p-file.true, c.part_at-line.ensures, c.byte_at-level.ensures)

pub returns-then-not-field_at : goal.returns-then-not-field_at
unfolding after_line
returns-then-not-field_at c =
    let a = c.args in
    let no_label : field_at a.file.now a.p 3 0 32 ≡ false = sym c.field_at.ensures ∙ c.if-not-field_at.true in
    rw (ne_eqb _ _ c.if-p-file.false, no_label, c.unread_at.ensures)

pub returns-then-end-file : goal.returns-then-end-file
unfolding after_line
returns-then-end-file c =
    rw (ne_eqb _ _ c.if-p-file.false, sym c.field_at.ensures ∙ c.if-not-field_at.false, ← c.end_at-end.ensures.0, ne_eqb _ _ c.if-end-file.true, c.unread_at-then-end-file.ensures)

pub returns : goal.returns
unfolding after_line
returns c =
    rw (
      ne_eqb _ _ c.if-p-file.false,
      sym c.field_at.ensures ∙ c.if-not-field_at.false,
      ← c.end_at-end.ensures.0,
      eq-eqb _ _ c.if-end-file.false,
      c.part_at-line.ensures,
      c.byte_at-level.ensures,
      c.part_at.ensures,
    )
