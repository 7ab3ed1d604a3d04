-- `hear_frame`: place after place.
use mathlib.Core.Path.{◌≡◌}
use Prim.Native.Nat.{◌≤◌}
use Rattle.engine.specs.Engine.{wrong_to}
use Rattle.plain.specs.Walk.{Voted}
use Rattle.plain.proofs.reading.hear_frame.Given as goal

abbrev pub invariant-loop-q : goal.invariant-loop-q
invariant-loop-q l = (l.wrong ≡ wrong_to l.row l.line l.f l.q) × (l.wrong ≤ l.q) × Voted l.row l.line l.f l.q l.votes
