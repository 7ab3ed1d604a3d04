-- `tell_all`: tributary after tributary.
use mathlib.Core.Path.{◌≡◌}
use Prim.Native.Nat.{◌*◌, ◌≤◌}
use lib.ListN.{length, take}
use Rattle.verdict.proofs.Telling.{told_to}
use Rattle.verdict.proofs.answer.tell_all.Given as goal

abbrev pub invariant-loop-j : goal.invariant-loop-j
invariant-loop-j l = (l.j ≤ 4) × (length l.out ≡ 88) × (take (22 * l.j) l.out ≡ told_to l.state l.j)
