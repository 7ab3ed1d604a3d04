-- `send`: one place after the other, by the laws of Counting and Sending.
use mathlib.Core.Path.{◌≡◌}
use Prim.Native.Nat.{◌*◌, ◌<◌}
use lib.ListN.{length}
use Rattle.engine.specs.Walk.{Counted}
use Rattle.plain.specs.Walk.{Sent}
use Rattle.plain.proofs.send.send.Given as goal

abbrev pub invariant-loop-p : goal.invariant-loop-p
invariant-loop-p l =
    (length l.line ≡ length l.initial.line)
    × (8 * length l.line < 1000000)
    × Counted l.row l.earlier l.notes l.p l.next
    × Sent l.row l.earlier l.notes l.buffer l.p (length l.initial.line) l.line
