-- `send_eight` puts out what the table weaves of eight digits of each.
use native.Mathlib.Omega.{arith}
use Rattle.weave.proofs.send_eight.Goals as goal

pub put-requires : goal.put-requires
put-requires c =
    let pre = c.requires in
    (pre.1, omega arith, c.weave.ensures.1, pre.2)

pub returns : goal.returns
returns c =
    let eight-at = c.eight_at in
    let eight-at2 = c.eight_at-2 in
    let eight-at3 = c.eight_at-3 in
    let eight-at4 = c.eight_at-4 in
    let weave = c.weave in
    let put = c.put in
    rw (← eight-at.ensures.0, ← eight-at2.ensures.0, ← eight-at3.ensures.0, ← eight-at4.ensures.0, ← weave.ensures.0) put.ensures
