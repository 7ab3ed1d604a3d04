-- `zeros_by_digit` meets its contract: the zeros so far are those of the part so far.
use mathlib.Core.Path.{◌≡◌}
use Prim.Native.Nat.{◌-◌, ◌≤◌}
use Rattle.digits.specs.Digits.{between, zeros_in}
use Rattle.digits.proofs.zeros.zeros_by_digit.Given as goal

abbrev pub invariant-loop-p : goal.invariant-loop-p
invariant-loop-p l = (l.zeros ≡ zeros_in (between l.s l.first l.p)) × (l.zeros ≤ l.p - l.first)
