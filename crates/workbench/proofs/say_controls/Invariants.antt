-- After p turns the places before p are mixed, and those from p on are as they were (Bench); from the first turn on the line is bytes, so
-- that at the end its digits say which (Late).
use Prim.Native.Nat.{◌<◌}
use Rattle.workbench.proofs.Bench.{Mixing}
use Rattle.digits.specs.Digits.{digits_of, Bytes}
use lib.ListN.{length}
use mathlib.Core.Path.{◌≡◌}
use Rattle.workbench.proofs.say_controls.Given as goal

abbrev pub invariant-loop-p : goal.invariant-loop-p
invariant-loop-p l = (length l.line ≡ length l.initial.line) × Mixing l.row (digits_of l.said) l.initial.line l.p l.line × (0 < l.p → Bytes l.line)
