-- `window_after`: eight digits after eight, and then digit after digit.
use mathlib.Core.Path.{◌≡◌}
use Prim.Native.Nat.{◌+◌, ◌*◌, ◌/◌, ◌^◌, ◌<◌}
use Rattle.patterns.specs.Patterns.{window_after}
use Rattle.patterns.proofs.window_after.Given as goal

abbrev pub invariant-loop : goal.invariant-loop
invariant-loop l = (l.w ≡ window_after l.pattern l.window (l.n / 8 * 8 + l.counter)) × (l.w < 2 ^ 23)
