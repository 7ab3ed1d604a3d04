-- `changes_of`: the changes of the frames so far.
use mathlib.Core.Path.{◌≡◌}
use mathlib.Core.List.{List}
use mathlib.Core.Bool.{cond, ◌&&◌}
use Prim.Native.Nat.{ℕ, suc, ◌≤◌}
use lib.Dec.{eqb}
use lib.ListN.{get_or}
use Rattle.digits.specs.Sums.{sum_to}
use Rattle.verdict_states.specs.States.{decided}
use Rattle.verdict_heads.proofs.changes_of.Given as goal

abbrev changed : List ℕ → ℕ → ℕ → ℕ → ℕ
changed votes came j f = cond (eqb came 0 && eqb f 0) 0 (cond (eqb (decided (get_or votes (suc f) 0) j) (decided (get_or votes f 0) j)) 0 1)

abbrev pub invariant-loop-f : goal.invariant-loop-f
invariant-loop-f l = (l.changes ≡ sum_to l.f (changed l.votes l.came l.j)) × (l.changes ≤ l.f)
