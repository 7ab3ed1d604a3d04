-- `national_ones`: the sum over the bits behind; each is 0 or 1, so it is at most their number.
use mathlib.Core.Path.{◌≡◌}
use Prim.Native.Nat.{ℕ, ◌≤◌, ◌+◌, ◌/◌, ◌%◌, ◌^◌}
use Rattle.engine.specs.Engine.{sum_over}
use Rattle.engine.proofs.refusals.national_ones.Given as goal

abbrev pub invariant-loop-k : goal.invariant-loop-k
invariant-loop-k l = (l.ones ≤ l.k) × (l.ones ≡ sum_over l.k (λ (k : ℕ). l.note / 2 ^ (5 + k) % 2))
