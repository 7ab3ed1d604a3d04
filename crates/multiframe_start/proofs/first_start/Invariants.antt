-- The invariant: none of the frames passed begins the multiframe, so that it is the first of those left (Starting).
use mathlib.Core.Path.{◌≡◌}
use Prim.Native.Nat.{◌-◌}
use Rattle.multiframe_start.specs.Start.{start_among}
use Rattle.multiframe_start.proofs.first_start.Given as goal

abbrev pub invariant-loop-f : goal.invariant-loop-f
invariant-loop-f l = start_among l.frames 16 ≡ start_among l.frames (16 - l.f)
