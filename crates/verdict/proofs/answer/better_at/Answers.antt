-- `better_at` lends both blocks.
use mathlib.Core.Path.{◌≡◌, sym, ◌∙◌}
use Prim.Native.Nat.{◌+◌, ◌-◌, ◌*◌}
use native.Mathlib.Omega.{arith}
use Rattle.verdict.proofs.answer.better_at.Goals as goal

pub returns-then-is_better : goal.returns-then-is_better
returns-then-is_better c =
    let a = c.args in
    let at = 11 + 42 * (4 + a.j) in
    let bt = 11 + 42 * (8 + a.j) in
    let e : at + 42 - at ≡ 42 = omega arith in
    let g : bt + 42 - bt ≡ 42 = omega arith in
    let told = rw (e, g) at c.is_better.ensures in
    (omega arith, rw (sym told ∙ c.if-is_better.true))

pub returns-else-is_better : goal.returns-else-is_better
returns-else-is_better c =
    let a = c.args in
    let at = 11 + 42 * (4 + a.j) in
    let bt = 11 + 42 * (8 + a.j) in
    let e : at + 42 - at ≡ 42 = omega arith in
    let g : bt + 42 - bt ≡ 42 = omega arith in
    let told = rw (e, g) at c.is_better.ensures in
    (omega arith, rw (sym told ∙ c.if-is_better.false))
