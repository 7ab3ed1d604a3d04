-- The row of a level is regular.
use mathlib.Core.Path.{sym, ◌∙◌}
use Rattle.engine.proofs.Rows.{regular-row}
use Rattle.plain.proofs.multiplex.Goals as goal

pub multiplex_on-requires : goal.multiplex_on-requires
multiplex_on-requires c =
    regular-row _ _ (sym c.level_of.ensures ∙ c.in-Some.is)
