-- `fill`: after each turn every own place of the tributary in the first x columns has its digit (Filling), first in the columns that went by whole
-- bytes, then in one more.
use mathlib.Core.Path.{refl}
use Prim.Native.Nat.{◌<◌, ◌*◌}
use native.Mathlib.Omega.{arith}
use lib.ListN.{length}
use Rattle.digits.specs.Digits.{Bytes}
use Rattle.swap.proofs.Filling.{filling-start, here-is, run-asks, run_past, on-asks, filling-run, put-asks, next-asks, filling-more, filling-end}
use Rattle.swap.proofs.fill.Goals as goal

pub overflow_mul-n : goal.overflow_mul-n
overflow_mul-n c = omega arith

pub loop-x-init : goal.loop-x-init
loop-x-init c =
    let bytes : Bytes c.args.line.now = λ i. omega (arith, c.type_inv.line i) in
    (omega arith, refl, c.spread_table-table.ensures, filling-start _ _ _ _ _ _ _ bytes c.requires.0 c.requires.1)

pub ahead-k-requires : goal.ahead-k-requires
ahead-k-requires c =
    let inside : c.loop-x.x < 2 * length c.args.line.now = omega (arith, c.loop-x.invariant.1, c.loop-x-test.true) in
    let asks = next-asks c.loop-x.invariant.3 inside in (asks.0, asks.2, asks.3)

pub put_columns-requires : goal.put_columns-requires
put_columns-requires c =
    let inside : c.loop-x.x < 2 * length c.args.line.now = omega (arith, c.loop-x.invariant.1, c.loop-x-test.true) in
    let inv = c.loop-x.invariant in
    let asks = run-asks inv.3 inside c.ahead-k.result c.ahead-k.ensures in
    (inv.2, asks.0, asks.1, asks.2, asks.3, asks.4, asks.5)

pub overflow_add-i : goal.overflow_add-i
overflow_add-i c =
    let inside : c.loop-x.x < 2 * length c.args.line.now = omega (arith, c.loop-x.invariant.1, c.loop-x-test.true) in
    omega (arith, (run-asks c.loop-x.invariant.3 inside c.ahead-k.result c.ahead-k.ensures).4)

pub columns_on-at-requires : goal.columns_on-at-requires
columns_on-at-requires c =
    let inside : c.loop-x.x < 2 * length c.args.line.now = omega (arith, c.loop-x.invariant.1, c.loop-x-test.true) in
    on-asks c.loop-x.invariant.3 inside c.ahead-k.result c.ahead-k.ensures

pub overflow_add-x : goal.overflow_add-x
overflow_add-x c =
    let inside : c.loop-x.x < 2 * length c.args.line.now = omega (arith, c.loop-x.invariant.1, c.loop-x-test.true) in
    let past = run_past c.loop-x.invariant.3 inside c.ahead-k.result c.ahead-k.ensures in
    omega (arith, past, c.loop-x.invariant.1)

pub overflow_mul-p : goal.overflow_mul-p
overflow_mul-p c =
    let inside : c.loop-x.x < 2 * length c.args.line.now = omega (arith, c.loop-x.invariant.1, c.loop-x-test.true) in
    let past = run_past c.loop-x.invariant.3 inside c.ahead-k.result c.ahead-k.ensures in
    let run = filling-run c.loop-x.invariant.3 inside c.ahead-k.result c.ahead-k.ensures c.put_columns.new.line c.put_columns.ensures c.columns_on-at.result c.columns_on-at.ensures in
    omega (arith, (here-is run past).line_short, past)

pub overflow_add-p : goal.overflow_add-p
overflow_add-p c =
    let inside : c.loop-x.x < 2 * length c.args.line.now = omega (arith, c.loop-x.invariant.1, c.loop-x-test.true) in
    let past = run_past c.loop-x.invariant.3 inside c.ahead-k.result c.ahead-k.ensures in
    let run = filling-run c.loop-x.invariant.3 inside c.ahead-k.result c.ahead-k.ensures c.put_columns.new.line c.put_columns.ensures c.columns_on-at.result c.columns_on-at.ensures in
    omega (arith, (here-is run past).line_short, past)

pub preceding_of-preceding-requires : goal.preceding_of-preceding-requires
preceding_of-preceding-requires c =
    let inside : c.loop-x.x < 2 * length c.args.line.now = omega (arith, c.loop-x.invariant.1, c.loop-x-test.true) in
    let past = run_past c.loop-x.invariant.3 inside c.ahead-k.result c.ahead-k.ensures in
    let run = filling-run c.loop-x.invariant.3 inside c.ahead-k.result c.ahead-k.ensures c.put_columns.new.line c.put_columns.ensures c.columns_on-at.result c.columns_on-at.ensures in
    (here-is run past).frame_noted

pub note_of-note-requires : goal.note_of-note-requires
note_of-note-requires c =
    let inside : c.loop-x.x < 2 * length c.args.line.now = omega (arith, c.loop-x.invariant.1, c.loop-x-test.true) in
    let past = run_past c.loop-x.invariant.3 inside c.ahead-k.result c.ahead-k.ensures in
    let run = filling-run c.loop-x.invariant.3 inside c.ahead-k.result c.ahead-k.ensures c.put_columns.new.line c.put_columns.ensures c.columns_on-at.result c.columns_on-at.ensures in
    (here-is run past).frame_noted

pub put_one-i-requires : goal.put_one-i-requires
put_one-i-requires c =
    let inside : c.loop-x.x < 2 * length c.args.line.now = omega (arith, c.loop-x.invariant.1, c.loop-x-test.true) in
    let past = run_past c.loop-x.invariant.3 inside c.ahead-k.result c.ahead-k.ensures in
    let run = filling-run c.loop-x.invariant.3 inside c.ahead-k.result c.ahead-k.ensures c.put_columns.new.line c.put_columns.ensures c.columns_on-at.result c.columns_on-at.ensures in
    let first = c.preceding_of-preceding in
    let note = c.note_of-note in
    put-asks run past first.result note.result first.ensures note.ensures

pub next_column-at-requires : goal.next_column-at-requires
next_column-at-requires c =
    let inside : c.loop-x.x < 2 * length c.args.line.now = omega (arith, c.loop-x.invariant.1, c.loop-x-test.true) in
    let past = run_past c.loop-x.invariant.3 inside c.ahead-k.result c.ahead-k.ensures in
    let run = filling-run c.loop-x.invariant.3 inside c.ahead-k.result c.ahead-k.ensures c.put_columns.new.line c.put_columns.ensures c.columns_on-at.result c.columns_on-at.ensures in
    next-asks run past

pub overflow_add-x-in-loop-x : goal.overflow_add-x-in-loop-x
overflow_add-x-in-loop-x c =
    let inside : c.loop-x.x < 2 * length c.args.line.now = omega (arith, c.loop-x.invariant.1, c.loop-x-test.true) in
    let past = run_past c.loop-x.invariant.3 inside c.ahead-k.result c.ahead-k.ensures in
    let run = filling-run c.loop-x.invariant.3 inside c.ahead-k.result c.ahead-k.ensures c.put_columns.new.line c.put_columns.ensures c.columns_on-at.result c.columns_on-at.ensures in
    omega (arith, past, (here-is run past).line_short)

pub loop-x-smaller : goal.loop-x-smaller
loop-x-smaller c =
    let inside : c.loop-x.x < 2 * length c.args.line.now = omega (arith, c.loop-x.invariant.1, c.loop-x-test.true) in
    let past = run_past c.loop-x.invariant.3 inside c.ahead-k.result c.ahead-k.ensures in
    omega (arith, past, c.loop-x.invariant.1)

pub loop-x-preserved : goal.loop-x-preserved
loop-x-preserved c =
    let inside : c.loop-x.x < 2 * length c.args.line.now = omega (arith, c.loop-x.invariant.1, c.loop-x-test.true) in
    let past = run_past c.loop-x.invariant.3 inside c.ahead-k.result c.ahead-k.ensures in
    let run = filling-run c.loop-x.invariant.3 inside c.ahead-k.result c.ahead-k.ensures c.put_columns.new.line c.put_columns.ensures c.columns_on-at.result c.columns_on-at.ensures in
    let put = c.put_one-i in
    let note = c.note_of-note in
    let first = c.preceding_of-preceding in
    let inv = c.loop-x.invariant in
    let more = filling-more run past first.result note.result first.ensures note.ensures put.result.0 _ put.ensures
    put.auto.line _ c.next_column-at.ensures in
    (omega (arith, past, inv.1), inv.1, inv.2, more)

pub shape_of-line : goal.shape_of-line
shape_of-line c = c.loop-x.invariant.3.kept

pub returns : goal.returns
returns c = filling-end c.loop-x.invariant.3 (omega (arith, c.loop-x.invariant.1))
