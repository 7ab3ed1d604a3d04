-- `head_of_eight` is `first_set` where the word has eight digits.
use borrow.Author.Tests.{lt-ltb, le-ltb}
use native.Mathlib.Omega.{arith}
use Rattle.levels.specs.Places.{first_set}
use Rattle.levels.proofs.places.head_of_eight.Goals as goal

pub returns-in-0-to-7 : goal.returns-in-0-to-7
unfolding first_set
returns-in-0-to-7 c = rw (lt-ltb c.args.r c.args.row.len (omega arith))

pub returns-in_default : goal.returns-in_default
unfolding first_set
returns-in_default c = rw (le-ltb c.args.r c.args.row.len (omega arith), le-ltb c.args.r c.args.row.first (omega arith))
