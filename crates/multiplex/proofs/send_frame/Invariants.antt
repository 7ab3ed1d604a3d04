-- `send_frame`: the sets so far.
use mathlib.Core.Path.{◌≡◌}
use Prim.Native.Nat.{◌+◌, ◌*◌}
use lib.ListN.{length}
use Rattle.heads.specs.Sending.{Sending}
use Rattle.multiplex.proofs.send_frame.Given as goal

abbrev pub invariant-loop-set : goal.invariant-loop-set
invariant-loop-set l = (length l.line ≡ length l.initial.line) × Sending l.row l.earlier l.notes l.buffer (l.f * l.row.digits + l.set * l.row.set) l.line l.w l.next
