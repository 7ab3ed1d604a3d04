-- `count_few`: one column, or any number.
use native.Mathlib.Omega.{arith}
use Rattle.masks.proofs.count_few.Goals as goal

pub count_column-requires : goal.count_column-requires
count_column-requires c =
    let b = c.requires in
    (b.0, omega (arith, b.1, c.if-k-eq1.true), b.3, b.4)

pub returns-then-k-eq1 : goal.returns-then-k-eq1
returns-then-k-eq1 c = rw c.if-k-eq1.true c.count_column.ensures

pub count_columns-requires : goal.count_columns-requires
count_columns-requires c = c.requires

pub returns-else-k-eq1 : goal.returns-else-k-eq1
returns-else-k-eq1 c = c.count_columns.ensures
