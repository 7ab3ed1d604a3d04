-- `add_four`: four stores, one after another.
use native.Mathlib.Omega.{arith}
use mathlib.Core.Path.{refl}
use Prim.Native.Nat.{◌+◌, ◌^◌}
use Rattle.masks.specs.Masks.{added}
use Rattle.masks.proofs.Added.{added-lt}
use Rattle.masks.proofs.add_four.Goals as goal

pub overflow_add-sums : goal.overflow_add-sums
overflow_add-sums c = omega (arith, c.requires.1 c.args.base, c.requires.2)

pub overflow_add-sums-3 : goal.overflow_add-sums-3
overflow_add-sums-3 c =
    let a = c.args in
    let b = c.requires in
    omega (arith, added-lt a.sums.now a.base a.a (2 ^ 62) b.1 b.2 (a.base + 3), b.3)

pub overflow_add-sums-5 : goal.overflow_add-sums-5
overflow_add-sums-5 c =
    let a = c.args in
    let b = c.requires in
    let x = added-lt a.sums.now a.base a.a (2 ^ 62) b.1 b.2 in
    omega (arith, added-lt (added a.sums.now a.base a.a) (a.base + 3) a.b (2 ^ 62 + 256) x b.3 (a.base + 6), b.4)

pub overflow_add-sums-7 : goal.overflow_add-sums-7
overflow_add-sums-7 c =
    let a = c.args in
    let b = c.requires in
    let one = added a.sums.now a.base a.a in
    let two = added one (a.base + 3) a.b in
    let x = added-lt a.sums.now a.base a.a (2 ^ 62) b.1 b.2 in
    let y = added-lt one (a.base + 3) a.b (2 ^ 62 + 256) x b.3 in
    omega (arith, added-lt two (a.base + 6) a.c (2 ^ 62 + 256 + 256) y b.4 (a.base + 9), b.5)

pub returns : goal.returns
returns c = refl
