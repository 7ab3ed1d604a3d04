-- `count_wrong` counts up to 32 digits a turn. The invariant: the count so far, which is no more than the digits behind it.
use mathlib.Core.Path.{◌≡◌}
use Prim.Native.Nat.{◌≤◌, ◌-◌, min}
use Rattle.digits.specs.Digits.{digits_of}
use Rattle.judge.specs.Counting.{wrong_among}
use Rattle.judge.proofs.wrong.count_wrong.Given as goal

abbrev pub invariant-loop-p : goal.invariant-loop-p
invariant-loop-p l = (l.wrong ≡ wrong_among l.pattern (digits_of l.sent) (digits_of l.read) (min l.p l.n)) × (l.wrong ≤ min l.p l.n)

abbrev pub decreases-loop-p : goal.decreases-loop-p
decreases-loop-p l = l.n - l.p
