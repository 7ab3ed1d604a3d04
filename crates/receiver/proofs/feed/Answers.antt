-- `feed` is `feed_of`, whichever way the table answers.
use mathlib.Core.Path.{sym, ◌∙◌}
use Rattle.levels.proofs.Rows.{shared-row}
use Rattle.receiver.proofs.feed.Goals as goal

pub feed_row-requires : goal.feed_row-requires
feed_row-requires c = shared-row _ _ (sym c.level_of.ensures ∙ c.in-Some.is)

pub returns-in-Some : goal.returns-in-Some
returns-in-Some c = rw (c.feed_row.ensures, sym c.level_of.ensures ∙ c.in-Some.is)

pub returns-in-None : goal.returns-in-None
returns-in-None c = rw (c.refuse.ensures, sym c.level_of.ensures ∙ c.in-None.is)
