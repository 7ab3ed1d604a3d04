-- `feed_at` lends the block of a state.
use mathlib.Core.Path.{◌≡◌, ap}
use Prim.Native.Nat.{ℕ, ◌+◌, ◌-◌, ◌*◌}
use mathlib.Core.List.{List, ◌++◌}
use lib.ListN.{take, drop, length-drop}
use lib.Seq.{length-take-le}
use Rattle.verdict_blocks.specs.Keeping.{with_block}
use native.Mathlib.Omega.{arith}
use Rattle.verdict_blocks.proofs.ways.feed_at.Goals as goal

-- src/ways.rt:56:5
pub feed_quarter-requires : goal.feed_quarter-requires
feed_quarter-requires c =
    let a = c.args in
    let at = 11 + 42 * a.b in
    let e : at + 42 - at ≡ 42 = omega arith in
    let pre = c.requires in
    rw e (length-take-le 42 (drop at a.state.now) (omega (arith, pre.0, pre.1, length-drop at a.state.now)), pre.2, pre.3)

-- src/ways.rt:21:1
pub returns : goal.returns
unfolding with_block
returns c =
    let a = c.args in
    let at = 11 + 42 * a.b in
    let e : at + 42 - at ≡ 42 = omega arith in
    let done = rw e at c.feed_quarter.ensures in
    rw e (ap (λ (ys : List ℕ). take at a.state.now ++ (ys ++ drop 42 (drop at a.state.now))) done)
