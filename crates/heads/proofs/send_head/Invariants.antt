-- `send_head`: the columns so far as a number (Placing).
use mathlib.Core.Path.{◌≡◌}
use mathlib.Core.List.{◌∷◌}
use Prim.Native.Nat.{◌+◌, ◌*◌, ◌-◌, ◌%◌, ◌≤◌}
use lib.ListN.{get_or}
use Rattle.words.specs.Words.{out_from}
use Rattle.levels.specs.Places.{head_end}
use Rattle.heads.proofs.Placing.{Headed}
use Rattle.heads.proofs.send_head.Given as goal

abbrev pub invariant-loop-r : goal.invariant-loop-r
invariant-loop-r l =
    (l.r ≤ l.end) × (l.end ≡ head_end l.row l.set) × (l.note ≡ get_or l.notes l.f 0) × (l.preceding ≡ get_or (l.earlier ∷ l.notes) l.f 0)
    × Headed l.row l.earlier l.notes l.buffer (l.f * l.row.digits + l.set * l.row.set) (out_from 0 l.line l.w) l.r l.word l.next
    × (l.r % 4 ≡ 0)

abbrev pub decreases-loop-r : goal.decreases-loop-r
decreases-loop-r l = l.end - l.r
