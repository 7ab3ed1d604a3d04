-- `count_unequal`: an equal frame has nothing to count.
use native.Mathlib.Omega.{arith}
use Rattle.differing.proofs.SumsByKind.{frame-bytes, equal-frame}
use Rattle.differing.proofs.counting.count_unequal.Goals as goal

pub overflow_mul-from : goal.overflow_mul-from
overflow_mul-from c =
    let b = c.requires in
    omega (arith, frame-bytes _ _ _ b.0 c.args.f b.1, b.0.short)

pub overflow_add-from : goal.overflow_add-from
overflow_add-from c =
    let b = c.requires in
    omega (arith, frame-bytes _ _ _ b.0 c.args.f b.1, b.0.short)

pub equal_bytes-requires : goal.equal_bytes-requires
equal_bytes-requires c =
    let b = c.requires in
    (omega arith, frame-bytes _ _ _ b.0 c.args.f b.1, b.0.same_length, omega (arith, b.0.shared.packed, b.0.shared.short))

pub returns-else-not-equal_bytes : goal.returns-else-not-equal_bytes
returns-else-not-equal_bytes c =
    let b = c.requires in
    equal-frame _ _ _ b.0 c.args.f b.1 _ (c.equal_bytes.ensures c.if-not-equal_bytes.false) b.2
