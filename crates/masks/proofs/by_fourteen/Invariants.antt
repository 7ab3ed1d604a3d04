-- `by_fourteen`: a turn is fourteen columns, at most thirteen turns.
use mathlib.Core.Path.{◌≡◌}
use Prim.Native.Nat.{◌*◌}
use Rattle.masks.specs.Masks.{Held}
use Rattle.masks.proofs.by_fourteen.Given as goal

abbrev pub invariant-loop-turn : goal.invariant-loop-turn
invariant-loop-turn l = (l.l.columns ≡ 14 * l.turn) × Held l.one l.other l.p l.l.columns l.turn l.l
