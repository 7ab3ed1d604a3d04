-- `middle_set` is `middle_set`: each arm of the match rewrites with the tests that lead to it.
use borrow.Author.Tests.{lt-ltb, le-ltb}
use native.Mathlib.Omega.{arith}
use Rattle.levels.specs.Places.{middle_set}
use Rattle.levels.proofs.places.middle_set.Goals as goal

pub returns-in-0-to-3 : goal.returns-in-0-to-3
unfolding middle_set
returns-in-0-to-3 c = rw (lt-ltb c.args.r 4 (omega arith))

pub returns-then-row : goal.returns-then-row
unfolding middle_set
returns-then-row c = rw (le-ltb c.args.r 4 (omega arith), lt-ltb c.args.r c.args.row.middle (omega arith))

pub returns-else-row : goal.returns-else-row
unfolding middle_set
returns-else-row c = rw (le-ltb c.args.r 4 (omega arith), le-ltb c.args.r c.args.row.middle (omega arith))

pub returns-in_default : goal.returns-in_default
unfolding middle_set
returns-in_default c = rw (le-ltb c.args.r 4 (omega arith), le-ltb c.args.r c.args.row.middle (omega arith))
