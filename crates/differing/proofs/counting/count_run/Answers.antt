-- `count_run`: the columns from the head's end to the set's.
use native.Mathlib.Omega.{arith}
use Prim.Native.Nat.{◌+◌, ◌*◌}
use Rattle.levels.specs.Places.{head_end}
use Rattle.levels.proofs.Runs.{head-end-in}
use Rattle.differing.proofs.SumsByKind.{even, set-inside, few-sums, run-columns, run-whole, run-first, run-rest}
use Rattle.differing.proofs.counting.count_run.Goals as goal

pub overflow_mul-p : goal.overflow_mul-p
overflow_mul-p c =
    let a = c.args in
    let b = c.requires in
    let i = set-inside a.row a.one.now a.other.now b.0 a.f b.1 a.s b.2 in
    omega (arith, i, b.0.short)

pub overflow_mul-p-2 : goal.overflow_mul-p-2
overflow_mul-p-2 c =
    let a = c.args in
    let b = c.requires in
    let i = set-inside a.row a.one.now a.other.now b.0 a.f b.1 a.s b.2 in
    omega (arith, i, b.0.short)

pub overflow_add-p : goal.overflow_add-p
overflow_add-p c =
    let a = c.args in
    let b = c.requires in
    let i = set-inside a.row a.one.now a.other.now b.0 a.f b.1 a.s b.2 in
    omega (arith, i, b.0.short)

pub overflow_add-p-2 : goal.overflow_add-p-2
overflow_add-p-2 c =
    let a = c.args in
    let b = c.requires in
    let sh = b.0.shared in
    let i = set-inside a.row a.one.now a.other.now b.0 a.f b.1 a.s b.2 in
    let e = c.head_end-head.ensures in
    let hin = head-end-in a.row sh a.s in
    omega (arith, i, b.0.short, e, hin)

pub overflow_sub-columns : goal.overflow_sub-columns
overflow_sub-columns c =
    let a = c.args in
    let b = c.requires in
    let sh = b.0.shared in
    let e = c.head_end-head.ensures in
    let hin = head-end-in a.row sh a.s in
    omega (arith, e, hin)

pub count_columns-requires : goal.count_columns-requires
count_columns-requires c =
    let a = c.args in
    let b = c.requires in
    let sh = b.0.shared in
    let i = set-inside a.row a.one.now a.other.now b.0 a.f b.1 a.s b.2 in
    let e = c.head_end-head.ensures in
    let hin = head-end-in a.row sh a.s in (
      even _ _ _ b.0,
      omega (arith, i, e, hin),
      c.if-columns-le-MOST.true,
      omega arith,
      few-sums _ _ _ b.0 a.f b.1 (a.f * a.row.digits + a.s * a.row.set + head_end a.row a.s) _ (omega (arith, i, hin)) b.3,
    )

pub returns-then-columns-le-MOST : goal.returns-then-columns-le-MOST
returns-then-columns-le-MOST c =
    let a = c.args in
    let b = c.requires in
    let e = c.head_end-head.ensures in
    run-whole _ _ _ b.0 a.f b.1 _ _ a.s b.2 c.head_end-head.result e b.3 c.count_columns.ensures

pub count_columns-requires-else-columns-le-MOST : goal.count_columns-requires-else-columns-le-MOST
count_columns-requires-else-columns-le-MOST c =
    let a = c.args in
    let b = c.requires in
    let sh = b.0.shared in
    let i = set-inside a.row a.one.now a.other.now b.0 a.f b.1 a.s b.2 in
    let e = c.head_end-head.ensures in
    let hin = head-end-in a.row sh a.s in (
      even _ _ _ b.0,
      omega (arith, i, e, hin, c.if-columns-le-MOST.false),
      omega arith,
      omega arith,
      few-sums _ _ _ b.0 a.f b.1 (a.f * a.row.digits + a.s * a.row.set + head_end a.row a.s) _ (omega (arith, i, hin)) b.3,
    )

pub overflow_add-p-else-columns-le-MOST : goal.overflow_add-p-else-columns-le-MOST
overflow_add-p-else-columns-le-MOST c =
    let a = c.args in
    let b = c.requires in
    let sh = b.0.shared in
    let i = set-inside a.row a.one.now a.other.now b.0 a.f b.1 a.s b.2 in
    let e = c.head_end-head.ensures in
    let hin = head-end-in a.row sh a.s in
    omega (arith, i, b.0.short, e, hin)

pub count_columns-requires-else-columns-le-MOST-2 : goal.count_columns-requires-else-columns-le-MOST-2
count_columns-requires-else-columns-le-MOST-2 c =
    let a = c.args in
    let b = c.requires in
    let sh = b.0.shared in
    let i = set-inside a.row a.one.now a.other.now b.0 a.f b.1 a.s b.2 in
    let e = c.head_end-head.ensures in
    let hin = head-end-in a.row sh a.s in
    let s1 = run-first _ _ _ b.0 a.f b.1 _ _ a.s b.2 c.head_end-head.result e (omega (arith, c.if-columns-le-MOST.false)) b.3 c.count_columns-else-columns-le-MOST.ensures in (
      even _ _ _ b.0,
      omega (arith, i, e, hin, c.if-columns-le-MOST.false),
      omega (arith, run-columns _ _ _ b.0 a.f b.1 a.s, e),
      omega arith,
      few-sums _ _ _ b.0 a.f b.1 (a.f * a.row.digits + a.s * a.row.set + c.head_end-head.result + 4 * 192) _ (omega (arith, i, e, hin, c.if-columns-le-MOST.false)) s1,
    )

pub returns-else-columns-le-MOST : goal.returns-else-columns-le-MOST
returns-else-columns-le-MOST c =
    let a = c.args in
    let b = c.requires in
    let e = c.head_end-head.ensures in
    let s1 = run-first _ _ _ b.0 a.f b.1 _ _ a.s b.2 c.head_end-head.result e (omega (arith, c.if-columns-le-MOST.false)) b.3 c.count_columns-else-columns-le-MOST.ensures in
    run-rest _ _ _ b.0 a.f b.1 _ _ a.s b.2 c.head_end-head.result e (omega (arith, c.if-columns-le-MOST.false)) s1 c.count_columns-else-columns-le-MOST-2.ensures
