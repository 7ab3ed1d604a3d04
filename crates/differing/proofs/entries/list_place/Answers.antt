-- `list_place` is `put_place`: the 64 have room, and no other.
use mathlib.Core.Path.{refl}
use borrow.Author.Tests.{lt-ltb, le-ltb}
use Rattle.differing.proofs.entries.list_place.Goals as goal

pub returns-else-before-lt-LISTED_MOST : goal.returns-else-before-lt-LISTED_MOST
returns-else-before-lt-LISTED_MOST c = rw (le-ltb _ _ c.if-before-lt-LISTED_MOST.false) refl

pub returns-then-before-lt-LISTED_MOST : goal.returns-then-before-lt-LISTED_MOST
returns-then-before-lt-LISTED_MOST c = rw (lt-ltb _ _ c.if-before-lt-LISTED_MOST.true) refl
