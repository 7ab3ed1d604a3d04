-- `repair_place`: the place stays, or its digit is written and counted, by the laws of Mending.
use native.Mathlib.Omega.{arith}
use mathlib.Core.Path.{sym, ◌∙◌}
use Rattle.levels.proofs.Line.{word-within}
use Rattle.repair.proofs.Mending.{sums-few, place-asks, place-stays, place-changes}
use Rattle.repair.proofs.repair_place.Goals as goal

pub overflow_mul-p : goal.overflow_mul-p
overflow_mul-p c =
    let in_line = place-asks c.args.at c.requires.0 c.requires.1 c.requires.2 in
    omega (arith, in_line.0, in_line.1)

pub overflow_mul-p-2 : goal.overflow_mul-p-2
overflow_mul-p-2 c =
    let in_line = place-asks c.args.at c.requires.0 c.requires.1 c.requires.2 in
    omega (arith, in_line.0, in_line.1)

pub overflow_add-p : goal.overflow_add-p
overflow_add-p c =
    let in_line = place-asks c.args.at c.requires.0 c.requires.1 c.requires.2 in
    omega (arith, in_line.0, in_line.1)

pub overflow_add-p-2 : goal.overflow_add-p-2
overflow_add-p-2 c =
    let in_line = place-asks c.args.at c.requires.0 c.requires.1 c.requires.2 in
    omega (arith, in_line.0, in_line.1)

pub line_digit-came-requires : goal.line_digit-came-requires
line_digit-came-requires c =
    (place-asks c.args.at c.requires.0 c.requires.1 c.requires.2).0

pub repaired_digit-d-requires : goal.repaired_digit-d-requires
repaired_digit-d-requires c = (
  c.requires.0.mended.whole.shared,
  omega (arith, c.tributary_at.ensures),
  λ e. word-within c.args.row c.args.at.set c.args.at.place (sym c.kind_of-kind.ensures ∙ e),
  c.line_digit-came.ensures.1,
)

pub returns-else-d-came : goal.returns-else-d-came
returns-else-d-came c earlier old a m =
    place-stays c.requires.1 c.requires.2 c.line_digit-came.ensures.0 c.kind_of-kind.ensures c.tributary_at.ensures
    c.repaired_digit-d.ensures.0 earlier old a m c.if-d-came.false

pub put_line_digit-requires : goal.put_line_digit-requires
put_line_digit-requires c =
    ((place-asks c.args.at c.requires.0 c.requires.1 c.requires.2).0, c.repaired_digit-d.ensures.1)

pub count_at-requires : goal.count_at-requires
count_at-requires c =
    let in_line = place-asks c.args.at c.requires.0 c.requires.1 c.requires.2 in
    (c.requires.0.mended.whole.shared, λ k. omega (arith, sums-few c.requires.0.mended k, in_line.0, in_line.1))

pub returns-then-d-came : goal.returns-then-d-came
returns-then-d-came c earlier old a m =
    let put = c.put_line_digit in
    place-changes c.requires.1 c.requires.2 c.line_digit-came.ensures.0 c.kind_of-kind.ensures c.tributary_at.ensures
    c.repaired_digit-d.ensures.0 earlier old a m c.if-d-came.true put.new.line c.count_at.new.sums put.ensures.0 put.ensures.1
    c.count_at.ensures
