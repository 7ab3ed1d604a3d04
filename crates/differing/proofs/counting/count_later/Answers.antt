-- `count_later`: the control column, then what the set has behind it.
use native.Mathlib.Omega.{arith}
use Prim.Native.Nat.{◌+◌, ◌*◌}
use Rattle.differing.proofs.SumsByKind.{even, set-inside, few-sums, control-sums, justification-sums, fixed-sums}
use Rattle.differing.proofs.counting.count_later.Goals as goal

pub overflow_mul-p : goal.overflow_mul-p
overflow_mul-p c =
    let a = c.args in
    let b = c.requires in
    let i = set-inside a.row a.one.now a.other.now b.0 a.f b.1 a.s b.3 in
    omega (arith, i, b.0.short)

pub overflow_mul-p-2 : goal.overflow_mul-p-2
overflow_mul-p-2 c =
    let a = c.args in
    let b = c.requires in
    let i = set-inside a.row a.one.now a.other.now b.0 a.f b.1 a.s b.3 in
    omega (arith, i, b.0.short)

pub overflow_add-p : goal.overflow_add-p
overflow_add-p c =
    let a = c.args in
    let b = c.requires in
    let i = set-inside a.row a.one.now a.other.now b.0 a.f b.1 a.s b.3 in
    omega (arith, i, b.0.short)

pub count_column-requires : goal.count_column-requires
count_column-requires c =
    let a = c.args in
    let b = c.requires in
    let sh = b.0.shared in
    let i = set-inside a.row a.one.now a.other.now b.0 a.f b.1 a.s b.3 in (
      even _ _ _ b.0,
      omega (arith, i, sh.room),
      omega arith,
      few-sums _ _ _ b.0 a.f b.1 (a.f * a.row.digits + a.s * a.row.set) _ (omega (arith, i)) b.4,
    )

pub overflow_add-p-then-s-row : goal.overflow_add-p-then-s-row
overflow_add-p-then-s-row c =
    let a = c.args in
    let b = c.requires in
    let i = set-inside a.row a.one.now a.other.now b.0 a.f b.1 a.s b.3 in
    omega (arith, i, b.0.short)

pub count_few-requires : goal.count_few-requires
count_few-requires c =
    let a = c.args in
    let b = c.requires in
    let sh = b.0.shared in
    let i = set-inside a.row a.one.now a.other.now b.0 a.f b.1 a.s b.3 in
    let c1 = control-sums _ _ _ b.0 a.f b.1 _ _ a.s b.3 b.2 b.4 c.count_column.ensures in (
      even _ _ _ b.0,
      omega (arith, i, sh.last_room, sh.last_least),
      omega (arith, sh.last_most),
      omega arith,
      few-sums _ _ _ b.0 a.f b.1 (a.f * a.row.digits + a.s * a.row.set + 4) _ (omega (arith, i, sh.room)) c1,
    )

pub returns-then-s-row : goal.returns-then-s-row
returns-then-s-row c =
    let a = c.args in
    let b = c.requires in
    let c1 = control-sums _ _ _ b.0 a.f b.1 _ _ a.s b.3 b.2 b.4 c.count_column.ensures in
    justification-sums _ _ _ b.0 a.f b.1 _ _ a.s b.3 b.2 c.if-s-row.true c1 c.count_few.ensures

pub overflow_add-p-else-s-row : goal.overflow_add-p-else-s-row
overflow_add-p-else-s-row c =
    let a = c.args in
    let b = c.requires in
    let i = set-inside a.row a.one.now a.other.now b.0 a.f b.1 a.s b.3 in
    omega (arith, i, b.0.short)

pub count_kind-requires : goal.count_kind-requires
count_kind-requires c =
    let a = c.args in
    let b = c.requires in
    let sh = b.0.shared in
    let i = set-inside a.row a.one.now a.other.now b.0 a.f b.1 a.s b.3 in
    let c1 = control-sums _ _ _ b.0 a.f b.1 _ _ a.s b.3 b.2 b.4 c.count_column.ensures in (
      even _ _ _ b.0,
      omega (arith, i, sh.room, sh.middle_most),
      omega (arith, sh.middle_most),
      omega arith,
      few-sums _ _ _ b.0 a.f b.1 (a.f * a.row.digits + a.s * a.row.set + 4) _ (omega (arith, i, sh.room)) c1,
    )

pub returns-else-s-row : goal.returns-else-s-row
returns-else-s-row c =
    let a = c.args in
    let b = c.requires in
    let c1 = control-sums _ _ _ b.0 a.f b.1 _ _ a.s b.3 b.2 b.4 c.count_column.ensures in
    fixed-sums _ _ _ b.0 a.f b.1 _ _ a.s b.3 b.2 c.if-s-row.false c1 c.count_kind.ensures
