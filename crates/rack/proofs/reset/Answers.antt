-- `reset`: where the list or the level refuses it is left, else the fresh record is put into its place (Lists).
use native.Mathlib.Omega.{arith}
use borrow.Author.Tests.{eq-eqb, ne_eqb}
use Rattle.rack.proofs.Lists.{reset-refused, reset-line, reset-few, reset-done}
use Rattle.rack.proofs.reset.Goals as goal

pub returns-then-refusal-ne0 : goal.returns-then-refusal-ne0
returns-then-refusal-ne0 c =
    let a = c.args in
    reset-refused a.records.now a.line a.level c.made-made.result c.made-made.ensures (ne_eqb _ _ c.if-refusal-ne0.true)

pub offset_bounds-records-at : goal.offset_bounds-records-at
offset_bounds-records-at c =
    let a = c.args in
    let taken = eq-eqb _ _ c.if-refusal-ne0.false in
    omega (arith, reset-line a.records.now a.line a.level c.made-made.result c.made-made.ensures taken, reset-few a.records.now a.line a.level c.made-made.result c.made-made.ensures taken)

pub bounds-records-at : goal.bounds-records-at
bounds-records-at c =
    let a = c.args in
    reset-line a.records.now a.line a.level c.made-made.result c.made-made.ensures (eq-eqb _ _ c.if-refusal-ne0.false)

pub returns : goal.returns
returns c =
    let a = c.args in
    reset-done a.records.now a.line a.level c.made-made.result c.made-made.ensures (eq-eqb _ _ c.if-refusal-ne0.false)
