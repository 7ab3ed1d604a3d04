-- `column_at` takes the first four digits of a byte, or the last four, since a column begins at a place that four divides.
use Prim.Native.Nat.{◌/◌}
use native.Mathlib.Omega.{arith}
use Rattle.reading.proofs.Lanes.{column-first, column-last}
use Rattle.reading.proofs.column_at.Goals as goal

pub returns-then-p-eq0 : goal.returns-then-p-eq0
returns-then-p-eq0 c =
    let b = c.args in
    let byte = c.type_inv.line (b.p.0 / 8) in
    (column-first b.line.now b.p.0 (omega (arith, byte)) c.if-p-eq0.true, omega (arith, byte))

pub returns-else-p-eq0 : goal.returns-else-p-eq0
returns-else-p-eq0 c =
    let byte = c.type_inv.line (c.args.p.0 / 8) in
    (column-last c.args.line.now c.args.p.0 (omega (arith, byte)) (omega (arith, c.requires.0, c.if-p-eq0.false)), omega arith)
