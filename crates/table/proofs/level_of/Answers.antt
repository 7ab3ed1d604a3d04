-- `level_of` is `level_of`: the code's table is the reader's, row by row, by computation.
use borrow.Author.Tests.{ne_eqb}
use native.Mathlib.Omega.{arith}
use Rattle.table.specs.Table.{level_of}
use Rattle.table.proofs.level_of.Goals as goal

pub returns-in-2 : goal.returns-in-2
unfolding level_of
returns-in-2 c = rw c.in-2.is

pub returns-in-3 : goal.returns-in-3
unfolding level_of
returns-in-3 c = rw c.in-3.is

pub returns-in-4 : goal.returns-in-4
unfolding level_of
returns-in-4 c = rw c.in-4.is

pub returns-in-12 : goal.returns-in-12
unfolding level_of
returns-in-12 c = rw c.in-12.is

pub returns-in-14 : goal.returns-in-14
unfolding level_of
returns-in-14 c = rw c.in-14.is

pub returns-in_default : goal.returns-in_default
unfolding level_of
returns-in_default c =
    let l = c.args.level in
    rw (ne_eqb l 2 (λ e. omega arith), ne_eqb l 3 (λ e. omega arith), ne_eqb l 4 (λ e. omega arith), ne_eqb l 12 (λ e. omega arith), ne_eqb l 14 (λ e. omega arith))
