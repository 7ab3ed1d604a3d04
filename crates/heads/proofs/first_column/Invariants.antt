-- `first_column`: the places so far, of which none carries a digit (Placing).
use mathlib.Core.List.{List}
use Prim.Native.Nat.{ℕ, ◌^◌, ◌<◌}
use Rattle.levels.specs.declared.order.Action.{Action}
use Rattle.heads.specs.Columns.{PlacedTo}
use Rattle.heads.proofs.first_column.Given as goal

abbrev pub invariant-loop-j : goal.invariant-loop-j
invariant-loop-j l = (l.word < 2 ^ l.j) × ((acts : ℕ → Action) (buffer next : List ℕ) → PlacedTo l.row l.note acts 0 l.r buffer next l.j l.word next)
