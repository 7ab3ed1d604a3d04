-- After p turns the places before p are mixed, and those from p on are as they were (Bench); from the first turn on the line is bytes, so
-- that at the end its digits say which (Late).
use Prim.Native.Nat.{◌<◌}
use Rattle.workbench.proofs.Bench.{mixing-start, mixing-more}
use Rattle.workbench.proofs.Late.{mixed-bytes, none-bytes}
use Rattle.digits.specs.Digits.{Bytes}
use mathlib.Core.Path.{refl}
use native.Mathlib.Omega.{arith}
use native.Mathlib.Decide.{ℕ_discrete}
use Rattle.workbench.proofs.say_controls.Goals as goal

pub loop-p-init : goal.loop-p-init
loop-p-init c = (refl, mixing-start _ _ _, λ h. absurd (over h))
  where
    over : 0 < 0 → ⊥
    over h = omega arith

pub loop-p-preserved : goal.loop-p-preserved
loop-p-preserved c =
    let l = c.loop-p in
    (omega arith, mixing-more _ _ _ l.line _ l.p _ l.invariant.1 (omega arith) c.late_digit-d.ensures.0 c.put_digit.ensures.0, λ h. c.put_digit.ensures.1)

pub returns : goal.returns
returns c =
    let l = c.loop-p in
    let bytes : Bytes l.line = elim (ℕ_discrete l.p 0) [ yes z ↦ none-bytes l.line (omega arith) | no n ↦ l.invariant.2 (omega arith) ] in
    mixed-bytes _ _ _ l.line l.invariant.0 bytes (λ p h. l.invariant.1.done p (omega arith))
