-- `head_of_ten` is `first_set` where the word has ten digits.
use borrow.Author.Tests.{lt-ltb, le-ltb}
use native.Mathlib.Omega.{arith}
use Rattle.levels.specs.Places.{first_set}
use Rattle.levels.proofs.places.head_of_ten.Goals as goal

pub returns-in-0-to-9 : goal.returns-in-0-to-9
unfolding first_set
returns-in-0-to-9 c = rw (lt-ltb c.args.r c.args.row.len (omega arith))

pub returns-in-10-to-11 : goal.returns-in-10-to-11
unfolding first_set
returns-in-10-to-11 c =
    let f = c.requires.0.ten c.requires.1 in
    rw (le-ltb c.args.r c.args.row.len (omega arith), lt-ltb c.args.r c.args.row.first (omega arith), c.service_digit.ensures, c.requires.1)

pub returns-in_default : goal.returns-in_default
unfolding first_set
returns-in_default c =
    let f = c.requires.0.ten c.requires.1 in
    rw (le-ltb c.args.r c.args.row.len (omega arith), le-ltb c.args.r c.args.row.first (omega arith))
