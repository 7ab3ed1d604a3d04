-- `good_at` lends the block of a state.
use mathlib.Core.Path.{◌≡◌}
use Prim.Native.Nat.{◌+◌, ◌-◌, ◌*◌}
use native.Mathlib.Omega.{arith}
use Rattle.verdict_states.proofs.validity.good_at.Goals as goal

pub returns : goal.returns
returns c =
    let at = 11 + 42 * c.args.b in
    let e : at + 42 - at ≡ 42 = omega arith in
    rw e at c.good_block.ensures
