-- `zeros_by_digit` meets its contract: the zeros so far are those of the part so far.
use native.Mathlib.Omega.{arith}
use Rattle.digits.proofs.ZeroLaws.{zeros-none, zeros-one, zeros-join}
use Rattle.digits.proofs.zeros.zeros_by_digit.Goals as goal

pub loop-p-init : goal.loop-p-init
loop-p-init c = (zeros-none _ c.args.first, omega arith)

pub loop-p-preserved : goal.loop-p-preserved
loop-p-preserved c =
    let l = c.loop-p in
    (rw c.from.ensures (zeros-join _ _ l.p _ _ _ (omega arith) (omega arith) l.invariant.0 (zeros-one _ l.p _ (omega arith) c.digit_at.ensures.0)), omega (arith, l.invariant.1))
