-- The row of a level is regular.
use mathlib.Core.Path.{sym, ◌∙◌}
use Rattle.engine.proofs.Rows.{regular-row}
use Rattle.plain.proofs.extract.Goals as goal

pub extract_on-requires : goal.extract_on-requires
extract_on-requires c =
    regular-row _ _ (sym c.level_of.ensures ∙ c.in-Some.is)
