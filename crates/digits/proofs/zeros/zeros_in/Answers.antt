-- `zeros_in` meets its contract: the part is its begin, its whole bytes and its end.
use native.Mathlib.Omega.{arith}
use Prim.Native.Nat.{◌+◌, ◌*◌, ◌/◌}
use Rattle.digits.proofs.ZeroLaws.{zeros-join}
use Rattle.digits.proofs.zeros.zeros_in.Goals as goal

pub returns : goal.returns
returns c =
    let a = c.args in
    let b = 8 * ((a.first + 7) / 8) in
    let e = 8 * (a.end / 8) in
    let one = c.zeros_by_digit-before.ensures in
    let two = c.zeros_by_byte-whole.ensures in
    let three = c.zeros_by_digit-after.ensures in
    let whole = zeros-join _ a.first b e _ _ (omega arith) (omega arith) one.0 two.0 in
    (zeros-join _ a.first e a.end _ _ (omega arith) (omega arith) whole three.0, omega (arith, one.1, two.1, three.1))
