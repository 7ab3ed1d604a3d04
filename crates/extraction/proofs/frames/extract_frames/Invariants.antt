-- `extract_frames` hands out the frames of a line: the invariant is `Handing`, of the columns up to the next frame.
use mathlib.Core.Path.{◌≡◌}
use Prim.Native.Nat.{◌*◌}
use lib.ListN.{length}
use Rattle.levels.proofs.Columns.{columns}
use Rattle.extraction.specs.Handing.{Handing}
use Rattle.extraction.proofs.frames.extract_frames.Given as goal

abbrev pub invariant-loop-f : goal.invariant-loop-f
invariant-loop-f l = (length l.buffer ≡ length l.initial.buffer) × Handing l.row l.earlier l.line l.notes l.q (l.f * columns l.row) l.buffer l.w
