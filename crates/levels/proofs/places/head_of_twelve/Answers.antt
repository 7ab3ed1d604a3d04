-- `head_of_twelve` is `first_set` where the word has twelve digits.
use borrow.Author.Tests.{lt-ltb, le-ltb}
use native.Mathlib.Omega.{arith}
use Rattle.levels.specs.Places.{first_set}
use Rattle.levels.proofs.places.head_of_twelve.Goals as goal

pub returns-in-0-to-11 : goal.returns-in-0-to-11
unfolding first_set
returns-in-0-to-11 c = rw (lt-ltb c.args.r c.args.row.len (omega arith))

pub returns-in-12-to-15 : goal.returns-in-12-to-15
unfolding first_set
returns-in-12-to-15 c =
    let f = c.requires.0.twelve c.requires.1 in
    rw (le-ltb c.args.r c.args.row.len (omega arith), lt-ltb c.args.r c.args.row.first (omega arith), c.service_digit.ensures, c.requires.1)

pub returns-in_default : goal.returns-in_default
unfolding first_set
returns-in_default c =
    let f = c.requires.0.twelve c.requires.1 in
    rw (le-ltb c.args.r c.args.row.len (omega arith), le-ltb c.args.r c.args.row.first (omega arith))
