-- `count_first`: the word, the remote alarm digit, the other service digits.
use native.Mathlib.Omega.{arith}
use Prim.Native.Nat.{◌+◌, ◌*◌}
use Rattle.differing.proofs.SumsByKind.{even, set-inside, head-short, few-sums, word-sums, alarm-sums, national-sums}
use Rattle.differing.proofs.counting.count_first.Goals as goal

pub overflow_mul-p : goal.overflow_mul-p
overflow_mul-p c =
    let a = c.args in
    let b = c.requires in
    let sh = b.0.shared in
    let i = set-inside a.row a.one.now a.other.now b.0 a.f b.1 0 (omega (arith, sh.later_set)) in
    omega (arith, i, b.0.short)

pub count_kind-requires : goal.count_kind-requires
count_kind-requires c =
    let a = c.args in
    let b = c.requires in
    let sh = b.0.shared in
    let i = set-inside a.row a.one.now a.other.now b.0 a.f b.1 0 (omega (arith, sh.later_set)) in (
      even _ _ _ b.0,
      omega (arith, i, sh.room, sh.alarm_next, sh.national_next, sh.first_next, sh.few_alarm),
      omega (arith, sh.word_short),
      omega arith,
      few-sums _ _ _ b.0 a.f b.1 (a.f * a.row.digits) _ (omega (arith, i)) b.2,
    )

pub overflow_add-q : goal.overflow_add-q
overflow_add-q c =
    let a = c.args in
    let b = c.requires in
    let sh = b.0.shared in
    let i = set-inside a.row a.one.now a.other.now b.0 a.f b.1 0 (omega (arith, sh.later_set)) in
    omega (arith, i, b.0.short, sh.room, sh.alarm_next, sh.national_next, sh.first_next, sh.few_alarm)

pub count_kind-requires-2 : goal.count_kind-requires-2
count_kind-requires-2 c =
    let a = c.args in
    let b = c.requires in
    let sh = b.0.shared in
    let i = set-inside a.row a.one.now a.other.now b.0 a.f b.1 0 (omega (arith, sh.later_set)) in
    let w1 = word-sums _ _ _ b.0 a.f b.1 _ _ b.2 c.count_kind.ensures in (
      even _ _ _ b.0,
      omega (arith, i, sh.room, sh.alarm_next, sh.national_next, sh.first_next, sh.few_alarm),
      omega (arith, sh.few_alarm),
      omega arith,
      few-sums _ _ _ b.0 a.f b.1 (a.f * a.row.digits + a.row.len) _ (omega (arith, i, sh.room, sh.alarm_next, sh.national_next, sh.first_next, sh.few_alarm)) w1,
    )

pub overflow_add-r : goal.overflow_add-r
overflow_add-r c =
    let a = c.args in
    let b = c.requires in
    let sh = b.0.shared in
    let i = set-inside a.row a.one.now a.other.now b.0 a.f b.1 0 (omega (arith, sh.later_set)) in
    omega (arith, i, b.0.short, sh.room, sh.alarm_next, sh.national_next, sh.first_next, sh.few_alarm)

pub overflow_add-row : goal.overflow_add-row
overflow_add-row c =
    let b = c.requires in
    let sh = b.0.shared in
    omega (arith, sh.word_short, sh.few_alarm)

pub overflow_sub-row : goal.overflow_sub-row
overflow_sub-row c =
    let b = c.requires in
    let sh = b.0.shared in
    omega (arith, sh.room, sh.alarm_next, sh.national_next, sh.first_next, sh.few_alarm)

pub count_kind-requires-3 : goal.count_kind-requires-3
count_kind-requires-3 c =
    let a = c.args in
    let b = c.requires in
    let sh = b.0.shared in
    let i = set-inside a.row a.one.now a.other.now b.0 a.f b.1 0 (omega (arith, sh.later_set)) in
    let w1 = word-sums _ _ _ b.0 a.f b.1 _ _ b.2 c.count_kind.ensures in
    let w2 = alarm-sums _ _ _ b.0 a.f b.1 _ _ w1 c.count_kind-2.ensures in (
      even _ _ _ b.0,
      omega (arith, i, sh.room, sh.alarm_next, sh.national_next, sh.first_next, sh.few_alarm),
      omega (arith, head-short a.row sh),
      omega arith,
      few-sums _ _ _ b.0 a.f b.1 (a.f * a.row.digits + a.row.len + a.row.alarms) _ (omega (arith, i, sh.room, sh.alarm_next, sh.national_next, sh.first_next, sh.few_alarm)) w2,
    )

pub returns : goal.returns
returns c =
    let a = c.args in
    let b = c.requires in
    let w1 = word-sums _ _ _ b.0 a.f b.1 _ _ b.2 c.count_kind.ensures in
    let w2 = alarm-sums _ _ _ b.0 a.f b.1 _ _ w1 c.count_kind-2.ensures in
    national-sums _ _ _ b.0 a.f b.1 _ _ w2 c.count_kind-3.ensures
