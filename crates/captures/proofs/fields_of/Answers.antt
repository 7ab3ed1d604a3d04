-- `fields_of` is `fields_of`: the level's field, the line's, then what comes after the line.
use mathlib.Core.Path.{sym, ◌∙◌}
use Rattle.captures.specs.Captures.{fields_of}
use Rattle.captures.proofs.Walking.{within}
use Rattle.captures.proofs.fields_of.Goals as goal

pub returns-then-not-field_at : goal.returns-then-not-field_at
unfolding fields_of
returns-then-not-field_at c = rw (sym c.field_at.ensures ∙ c.if-not-field_at.true, c.unread_at.ensures)

pub returns-then-not-field_at-2 : goal.returns-then-not-field_at-2
unfolding fields_of
returns-then-not-field_at-2 c =
    rw (sym c.field_at.ensures ∙ c.if-not-field_at.false, sym c.field_at-2.ensures ∙ c.if-not-field_at-2.true, c.unread_at-then-not-field_at-2.ensures)

pub after_line-requires : goal.after_line-requires
after_line-requires c = rw c.end_at.ensures.0 (within _ 4 2 0 65535 (sym c.field_at-2.ensures ∙ c.if-not-field_at-2.false))

pub returns : goal.returns
unfolding fields_of
returns c =
    rw (sym c.field_at.ensures ∙ c.if-not-field_at.false, sym c.field_at-2.ensures ∙ c.if-not-field_at-2.false, ← c.end_at.ensures.0) c.after_line.ensures
