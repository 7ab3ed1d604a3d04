-- The row of a level is regular.
use mathlib.Core.Path.{sym, ◌∙◌}
use Rattle.engine.proofs.Rows.{regular-row}
use Rattle.plain.proofs.read_notes.Goals as goal

pub read_notes_on-requires : goal.read_notes_on-requires
read_notes_on-requires c =
    regular-row _ _ (sym c.level_of.ensures ∙ c.in-Some.is)
