-- `push_eights`: eight digits after eight.
use mathlib.Core.Path.{◌≡◌}
use Prim.Native.Nat.{◌*◌, ◌^◌, ◌<◌}
use Rattle.patterns.specs.Patterns.{window_after}
use Rattle.patterns.proofs.push_eights.Given as goal

abbrev pub invariant-loop : goal.invariant-loop
invariant-loop l = (l.w ≡ window_after l.pattern l.window (l.counter * 8)) × (l.w < 2 ^ 23)
