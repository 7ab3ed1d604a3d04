-- The columns are put one after the other (Made).
use mathlib.Core.Path.{◌≡◌}
use native.Mathlib.Omega.{arith}
use lib.ListN.{length, set, length-set}
use Rattle.digits.specs.Digits.{digits_of, tab}
use Rattle.multiframe.specs.Steps.{ColumnPut, first_bytes}
use Rattle.multiframe.proofs.Made.{all_laid}
use Rattle.multiframe.proofs.lay.Goals as goal

pub put_column-requires-2 : goal.put_column-requires-2
put_column-requires-2 c =
    let two = c.put_column.new.multiframe in
    (omega (arith, length-set two 16 c.multiframe_byte.result), omega arith, omega arith)

pub shape_of-multiframe : goal.shape_of-multiframe
shape_of-multiframe c =
    let two = c.put_column.new.multiframe in
    omega (arith, length-set two 16 c.multiframe_byte.result)

pub returns : goal.returns
unfolding tab
returns c =
    let a = c.args in
    let s = a.signalling.now in
    let byte = c.multiframe_byte in
    let first = c.put_column in
    let two = first.new.multiframe in
    let firsts : ColumnPut _ 0 (first_bytes (digits_of a.spare.now)) 16 two = rw c.first_bytes-firsts.ensures at first.ensures in
    let l : length s ≡ 15 = omega arith in
    let done : ColumnPut (set two 16 byte.result) _ s 15 _ = rw l at c.put_column-2.ensures in
    all_laid a.channels.now s a.spare.now _ two _ byte.result _ (omega arith) c.put_channels.ensures firsts byte.ensures done (omega arith)
