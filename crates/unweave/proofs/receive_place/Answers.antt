-- `receive_place` puts the digit of its place, or no digit of it where it carries none.
use native.Mathlib.Omega.{arith}
use lib.Bits.{and_le_l}
use Rattle.unweave.proofs.Four.{put_as}
use Rattle.unweave.proofs.Lanes.{place-few, place-below, place-written, place-room}
use Rattle.unweave.proofs.receive_place.Goals as goal

pub overflow_cast-d : goal.overflow_cast-d
overflow_cast-d c =
    omega (arith, c.line_digit-d.ensures.1, and_le_l c.line_digit-d.result c.digit_of-n.result)

pub put_quarter-requires : goal.put_quarter-requires
put_quarter-requires c =
    let carries = c.args.carries in
    let digit = c.line_digit-d.ensures in
    let n = c.digit_of-n.ensures.0 in (
      c.requires.2,
      c.requires.3,
      place-few carries _ _ digit.1 n,
      place-below carries _ _ digit.1 n,
      place-room carries _ _ digit.1 n _ c.requires.4,
    )

pub returns : goal.returns
returns c =
    let digit = c.line_digit-d.ensures in
    put_as c.put_quarter.ensures (place-written c.args.carries _ _ digit.1 c.digit_of-n.ensures.0 _ digit.0)
