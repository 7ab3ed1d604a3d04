-- `last_set` is `last_set`: each arm of the match rewrites with the tests that lead to it.
use borrow.Author.Tests.{lt-ltb, le-ltb}
use native.Mathlib.Omega.{arith}
use Prim.Native.Nat.{◌-◌}
use Rattle.levels.specs.Places.{last_set}
use Rattle.levels.proofs.places.last_set.Goals as goal

pub returns-in-0-to-3 : goal.returns-in-0-to-3
unfolding last_set
returns-in-0-to-3 c = rw (lt-ltb c.args.r 4 (omega arith))

pub returns-then-row : goal.returns-then-row
unfolding last_set
returns-then-row c =
    let r = c.args.r in
    let last = c.args.row.last in
    rw (le-ltb r 4 (omega arith), lt-ltb r (last - 4) (omega arith))

pub returns-else-row : goal.returns-else-row
unfolding last_set
returns-else-row c =
    let r = c.args.r in
    let last = c.args.row.last in
    rw (le-ltb r 4 (omega arith), le-ltb r (last - 4) (omega arith), lt-ltb r last (omega arith))

pub returns-then-row-2 : goal.returns-then-row-2
unfolding last_set
returns-then-row-2 c =
    let r = c.args.r in
    let last = c.args.row.last in
    rw (le-ltb r 4 (omega arith), le-ltb r (last - 4) (omega arith), lt-ltb r last (omega arith))

pub returns-else-row-2 : goal.returns-else-row-2
unfolding last_set
returns-else-row-2 c =
    let r = c.args.r in
    let last = c.args.row.last in
    rw (le-ltb r 4 (omega arith), le-ltb r (last - 4) (omega arith), le-ltb r last (omega arith))

pub returns-in_default : goal.returns-in_default
unfolding last_set
returns-in_default c =
    let r = c.args.r in
    let last = c.args.row.last in
    rw (le-ltb r 4 (omega arith), le-ltb r (last - 4) (omega arith), le-ltb r last (omega arith))
