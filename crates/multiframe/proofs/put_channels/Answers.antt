-- After c turns the columns of channels 1 to c are put (Channels).
use mathlib.Core.Path.{◌≡◌, ◌∙◌}
use Prim.Native.Nat.{◌+◌, ◌*◌, ◌-◌}
use native.Mathlib.Omega.{arith}
use native.Mathlib.Nat.{add-sub_cancel_left}
use lib.ListN.{length, take, drop}
use borrow.Rule.Slice.PartMut.{mid_len}
use Rattle.multiframe.specs.Steps.{ColumnPut}
use Rattle.multiframe.proofs.Channels.{channelling-none, channelling-put, channelling-all, column-there, part_of}
use Rattle.multiframe.proofs.put_channels.Goals as goal

pub loop-c-init : goal.loop-c-init
loop-c-init c =
    let a = c.args in
    (omega arith, channelling-none a.channels.now a.multiframe.now)

pub put_column-requires : goal.put_column-requires
put_column-requires c =
    let l = c.loop-c in
    let ch = c.args.channels.now in
    let n = mid_len (16 * l.c) (16 * l.c + 16) ch (omega arith) in
    let there = column-there l.c (omega arith) in
    (omega arith, omega (arith, n), omega (arith, n, there.inside, c.column_of.ensures))

pub loop-c-preserved : goal.loop-c-preserved
loop-c-preserved c =
    let put = c.put_column in
    let l = c.loop-c in
    let ch = c.args.channels.now in
    let part = take (16 * l.c + 16 - 16 * l.c) (drop (16 * l.c) ch) in
    let n : length part ≡ 16 = mid_len (16 * l.c) (16 * l.c + 16) ch (omega arith) ∙ add-sub_cancel_left (16 * l.c) 16 in
    let done : ColumnPut l.multiframe _ part 16 _ = rw (c.column_of.ensures, n) at put.ensures in
    (omega arith, channelling-put ch l.multiframe part _ l.c (omega arith) l.invariant.1 (part_of l.c (omega arith) ch (omega arith)) done)

pub returns : goal.returns
returns c =
    let l = c.loop-c in
    channelling-all c.args.channels.now l.c l.multiframe (omega arith) l.invariant.1
