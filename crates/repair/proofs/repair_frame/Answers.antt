-- `repair_frame`: set after set, from the frame's first place to the next frame's.
use native.Mathlib.Omega.{arith}
use mathlib.Core.Path.{◌≡◌}
use Rattle.repair.proofs.Frames.{frame-done}
use Rattle.repair.proofs.repair_frame.Goals as goal

pub returns : goal.returns
returns c =
    let l = c.loop-s in
    let e : l.s ≡ c.args.row.sets = omega arith in
    frame-done (rw e at l.invariant)
