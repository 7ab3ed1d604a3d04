-- `finish` fills the last byte with zeros and stores byte after byte. The invariant: nothing is appended, and what is held are whole bytes.
use mathlib.Core.Path.{◌≡◌}
use mathlib.Core.List.{[]}
use Prim.Native.Nat.{◌+◌, ◌*◌, ◌%◌, ◌≤◌}
use lib.ListN.{length}
use Rattle.words.specs.Words.{Appended}
use Rattle.words.proofs.finish.Given as goal

abbrev pub invariant-loop-w : goal.invariant-loop-w
invariant-loop-w l = (l.w.fill % 8 ≡ 0) × (8 * l.w.at + l.w.fill ≤ 8 * length l.s) × (length l.s ≡ length l.initial.s) × Appended l.initial.s l.s l.initial.w l.w 0 []

abbrev pub decreases-loop-w : goal.decreases-loop-w
decreases-loop-w l = l.w.fill
