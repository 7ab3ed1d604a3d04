-- `count_frames`: frame after frame, from none to all.
use native.Mathlib.Omega.{arith}
use Rattle.differing.proofs.SumsByKind.{frame-in, frames-end, frames-start}
use Rattle.differing.proofs.counting.count_frames.Goals as goal

pub nonzero_div-frames : goal.nonzero_div-frames
nonzero_div-frames c = omega (arith, c.requires.0.shared.packed, c.requires.0.shared.counted, c.requires.0.shared.later_set)

pub loop-f-init : goal.loop-f-init
loop-f-init c = frames-start _ _ _ c.requires.0 _ c.requires.1

pub count_unequal-requires : goal.count_unequal-requires
count_unequal-requires c = (c.requires.0, frame-in _ _ _ c.requires.0 c.loop-f.f (omega arith), c.loop-f.invariant)

pub returns : goal.returns
returns c = frames-end _ _ _ c.requires.0 c.loop-f.f _ (omega arith) c.loop-f.invariant
