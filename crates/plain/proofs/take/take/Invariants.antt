-- `take`: one place after the other, by the laws of Counting and Handing.
use mathlib.Core.Path.{◌≡◌}
use Prim.Native.Nat.{◌*◌, ◌/◌, ◌<◌}
use lib.ListN.{length}
use Rattle.engine.specs.Walk.{Counted}
use Rattle.plain.specs.Walk.{Taken}
use Rattle.plain.proofs.take.take.Given as goal

abbrev pub invariant-loop-p : goal.invariant-loop-p
invariant-loop-p l =
    (8 * length l.line < 1000000)
    × (length l.buffer ≡ length l.initial.buffer)
    × Counted l.row l.earlier l.notes l.p l.next
    × Taken l.row l.earlier l.notes l.line (length l.buffer / 4) l.p l.buffer
