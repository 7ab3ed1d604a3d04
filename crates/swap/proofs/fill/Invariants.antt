-- `fill`: after each turn every own place of the tributary in the first x columns has its digit (Filling), first in the columns that went by whole
-- bytes, then in one more.
use mathlib.Core.Path.{◌≡◌}
use Prim.Native.Nat.{◌≤◌, ◌-◌, ◌*◌}
use lib.ListN.{length}
use Rattle.digits.specs.Digits.{digits_of, tab}
use Rattle.weave.specs.Weave.{spread_of}
use Rattle.swap.proofs.Filling.{Filling}
use Rattle.swap.proofs.fill.Given as goal

abbrev pub invariant-loop-x : goal.invariant-loop-x
invariant-loop-x l =
    (l.x ≤ l.n)
    × (l.n ≡ 2 * length l.initial.line)
    × (l.table ≡ tab 256 0 (spread_of 8))
    × Filling l.row l.earlier l.notes (digits_of l.buffer) l.initial.line l.j (length l.buffer) l.x l.i.0 l.at l.line

abbrev pub decreases-loop-x : goal.decreases-loop-x
decreases-loop-x l = l.n - l.x
