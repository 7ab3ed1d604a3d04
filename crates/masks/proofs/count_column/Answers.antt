-- `count_column`: the four digits of a column.
use native.Mathlib.Omega.{arith}
use Prim.Native.Nat.{ℕ, ◌/◌, ◌%◌}
use Rattle.masks.specs.Masks.{columns_of}
use Rattle.masks.proofs.Differing.{column-digits}
use Rattle.masks.proofs.Added.{four-of}
use Rattle.masks.proofs.count_column.Goals as goal

pub few-x-requires : goal.few-x-requires
few-x-requires c = (c.requires.0, c.requires.1, omega arith, omega arith)

pub add_four-requires : goal.add_four-requires
add_four-requires c = (c.requires.2, c.requires.3, omega arith, omega arith, omega arith, omega arith)

pub returns : goal.returns
returns c =
    let a = c.args in
    let e = column-digits _ _ _ _ c.few-x.ensures in
    let x = c.few-x.result in
    four-of a.sums.now _ a.base (x / 8 % 2) (x / 4 % 2) (x / 2 % 2) (x % 2)
    (λ (j : ℕ). columns_of a.one.now a.other.now a.p j 1) c.add_four.ensures e.0 e.1 e.2 e.3
