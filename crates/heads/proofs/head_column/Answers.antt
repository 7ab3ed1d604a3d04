-- `head_column`: the first set's by what `start_column` says, a later set's by what its first place is.
use native.Mathlib.Omega.{arith}
use Rattle.levels.specs.Places.{head_end}
use Rattle.levels.proofs.Runs.{head-end-short}
use Rattle.heads.proofs.head_column.Goals as goal

pub start_column-requires : goal.start_column-requires
unfolding head_end
start_column-requires c =
    (c.requires.1.shared, omega (arith, rw c.if-set-eq0.true at c.requires.0, c.requires.1.column, c.requires.1.shared.first_fours))

pub returns-then-set-eq0 : goal.returns-then-set-eq0
returns-then-set-eq0 c =
    rw c.if-set-eq0.true (c.start_column.ensures _ c.args.buffer.now c.args.next.now)

pub later_column-requires : goal.later_column-requires
later_column-requires c =
    (omega (arith, c.if-set-eq0.false), omega (arith, c.requires.0, head-end-short _ c.requires.1.shared c.args.set), c.requires.1)
