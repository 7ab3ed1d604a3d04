-- `changes_of` is `changes_of`. The invariant: the changes of the frames so far.
use mathlib.Core.Path.{◌≡◌}
use mathlib.Core.Bool.{cond}
use Prim.Native.Nat.{ℕ, suc, ◌≤◌, ◌-◌}
use lib.Dec.{eqb}
use lib.ListN.{length}
use Rattle.digits.specs.Sums.{sum_to}
use Rattle.judge.specs.Verdict.{decided}
use Rattle.judge.proofs.changes.changes_of.Given as goal

abbrev pub invariant-loop-f : goal.invariant-loop-f
invariant-loop-f l =
    (l.f - 1 ≤ length l.notes - 1)
    × (l.changes ≡ sum_to (l.f - 1) (λ (k : ℕ). cond (eqb (decided l.notes l.j (suc k)) (decided l.notes l.j k)) 0 1))
    × (l.changes ≤ l.f - 1)
