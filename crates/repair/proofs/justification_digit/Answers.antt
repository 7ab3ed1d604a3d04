-- `justification_digit`: by whether the place carries a digit.
use native.Mathlib.Omega.{arith}
use Rattle.repair.proofs.Mending.{stuffing-one}
use Rattle.repair.proofs.justification_digit.Goals as goal

pub returns-else-carries : goal.returns-else-carries
returns-else-carries c =
    let a = c.args in
    (stuffing-one a.sign a.came c.action_of-action.ensures c.justification_carries-carries.ensures c.if-carries.false, omega arith)
