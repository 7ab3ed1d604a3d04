-- `copy_bytes`: eight digits are put for each turn (proofs/Putting.antt).
use mathlib.Core.Path.{◌≡◌}
use Prim.Native.Nat.{◌+◌, ◌*◌}
use lib.ListN.{length}
use Rattle.digits.specs.Digits.{Bytes, between}
use Rattle.strides.specs.Copies.{puts}
use Rattle.strides.proofs.copies.copy_bytes.Given as goal

abbrev pub invariant-loop-k : goal.invariant-loop-k
invariant-loop-k l = Bytes l.f × (length l.f ≡ length l.initial.f) × (l.f ≡ puts l.initial.f (8 * l.at) (between l.piece l.first (l.first + 8 * l.k)))
