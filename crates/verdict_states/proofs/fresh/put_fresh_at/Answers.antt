-- `put_fresh_at` lends the block of a state.
use mathlib.Core.Path.{◌≡◌, ap}
use mathlib.Core.List.{List, ◌++◌}
use Prim.Native.Nat.{ℕ, ◌+◌, ◌-◌, ◌*◌}
use native.Mathlib.Omega.{arith}
use lib.ListN.{take, drop}
use Rattle.verdict_blocks.specs.Keeping.{with_block}
use Rattle.verdict_states.proofs.fresh.put_fresh_at.Goals as goal

pub returns : goal.returns
unfolding with_block
returns c =
    let a = c.args in
    let at = 11 + 42 * a.b in
    let e : at + 42 - at ≡ 42 = omega arith in
    rw e (ap (λ (ys : List ℕ). take at a.state.now ++ (ys ++ drop 42 (drop at a.state.now))) c.put_fresh.ensures)
