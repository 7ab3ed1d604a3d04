-- `extract_frame` hands out the sets of a frame: the invariant is `Handing`, of the columns up to the next set.
use mathlib.Core.Path.{◌≡◌}
use Prim.Native.Nat.{◌+◌, ◌*◌}
use lib.ListN.{length}
use Rattle.levels.proofs.Columns.{wide, columns}
use Rattle.extraction.specs.Handing.{Handing}
use Rattle.extraction.proofs.frames.extract_frame.Given as goal

abbrev pub invariant-loop-s : goal.invariant-loop-s
invariant-loop-s l = (length l.buffer ≡ length l.initial.buffer) × Handing l.row l.earlier l.line l.notes l.q (l.f * columns l.row + l.s * wide l.row) l.buffer l.w
