-- `copy_digits`: the digits before p are put (proofs/Putting.antt).
use mathlib.Core.Path.{◌≡◌}
use lib.ListN.{length}
use Rattle.digits.specs.Digits.{between}
use Rattle.strides.specs.Copies.{puts}
use Rattle.strides.proofs.copies.copy_digits.Given as goal

abbrev pub invariant-loop-p : goal.invariant-loop-p
invariant-loop-p l = (length l.f ≡ length l.initial.f) × (l.f ≡ puts l.initial.f l.to (between l.piece l.first l.p))
