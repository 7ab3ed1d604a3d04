-- `seen_of` is one digit more, stopping at L.
use borrow.Author.Tests.{lt-ltb, le-ltb}
use Rattle.modes.specs.Modes.{seen_of}
use Rattle.modes.proofs.seen_of.Goals as goal

pub returns-then-seen-row : goal.returns-then-seen-row
unfolding seen_of
returns-then-seen-row c = rw (lt-ltb _ _ c.if-seen-row.true)

pub returns-else-seen-row : goal.returns-else-seen-row
unfolding seen_of
returns-else-seen-row c = rw (le-ltb _ _ c.if-seen-row.false)
