-- `send_frames`: the frames so far; at the end the writer holds nothing.
use mathlib.Core.Path.{◌≡◌}
use Prim.Native.Nat.{◌*◌}
use lib.ListN.{length}
use Rattle.digits.specs.Digits.{tab}
use Rattle.weave.specs.Weave.{spread_of}
use Rattle.heads.specs.Sending.{Sending}
use Rattle.multiplex.proofs.send_frames.Given as goal

abbrev pub invariant-loop-f : goal.invariant-loop-f
invariant-loop-f l = (l.table ≡ tab 256 0 (spread_of 8)) × (length l.line ≡ length l.initial.line) × Sending l.row l.earlier l.notes l.buffer (l.f * l.row.digits) l.line l.w l.next
