-- After c turns channels 1 to c are taken (Channels).
use mathlib.Core.Path.{◌≡◌, ◌∙◌}
use Prim.Native.Nat.{◌+◌, ◌*◌, ◌-◌}
use native.Mathlib.Omega.{arith}
use native.Mathlib.Nat.{add-sub_cancel_left}
use lib.ListN.{length}
use borrow.Rule.Slice.PartMut.{put_mid, mid_of, mid_len, same_len_mid}
use Rattle.multiframe.specs.Steps.{ColumnTaken, column_of}
use Rattle.multiframe.proofs.Channels.{channelling-none, channelling-take, channelling-all, column-there, part_stays, part-is}
use Rattle.multiframe.proofs.take_channels.Goals as goal

pub loop-c-init : goal.loop-c-init
loop-c-init c =
    let a = c.args in
    (omega arith, channelling-none a.channels.now a.multiframe.now)

pub take_column-requires : goal.take_column-requires
take_column-requires c =
    let l = c.loop-c in
    let n = mid_len (16 * l.c) (16 * l.c + 16) l.channels (omega arith) in
    let there = column-there l.c (omega arith) in
    (omega arith, omega (arith, n), omega (arith, n, there.inside, c.column_of.ensures))

pub loop-c-preserved : goal.loop-c-preserved
loop-c-preserved c =
    let taken = c.take_column in
    let l = c.loop-c in
    let m = c.args.multiframe.now in
    let mid = mid_of (16 * l.c) (16 * l.c + 16 - 16 * l.c) l.channels in
    let ys = taken.new.column in
    let n : length mid ≡ 16 = mid_len (16 * l.c) (16 * l.c + 16) l.channels (omega arith) ∙ add-sub_cancel_left (16 * l.c) 16 in
    let ly : length ys ≡ 16 = omega (arith, taken.auto, n) in
    let done : ColumnTaken m (column_of l.c) 16 ys = rw (c.column_of.ensures, n) at taken.ensures in (
      same_len_mid (16 * l.c) (16 * l.c + 16 - 16 * l.c) l.channels ys (omega (arith, ly, n)) ∙ l.invariant.0,
      channelling-take m l.channels (put_mid (16 * l.c) (16 * l.c + 16 - 16 * l.c) l.channels ys) l.c (omega arith) l.invariant.1
          (part_stays l.c (omega arith) l.channels l.invariant.0 ys ly)
          (λ f h. part-is l.c (omega arith) l.channels l.invariant.0 ys ly f h ∙ done f h),
    )

pub returns : goal.returns
returns c =
    let l = c.loop-c in
    channelling-all l.channels l.c c.args.multiframe.now (omega arith) l.invariant.1
