-- `tell_at` lends the block of a state, and seven places.
use mathlib.Core.Path.{◌≡◌, ap}
use mathlib.Core.List.{List, ◌++◌}
use Prim.Native.Nat.{ℕ, ◌+◌, ◌-◌, ◌*◌}
use native.Mathlib.Omega.{arith}
use lib.ListN.{take, drop, length-drop}
use lib.Seq.{length-take-le}
use Rattle.verdict_blocks.specs.Keeping.{block_from}
use Rattle.verdict.proofs.answer.tell_at.Goals as goal

pub tell-requires : goal.tell-requires
unfolding block_from
tell-requires c =
    let a = c.args in
    let p = c.requires in
    let at = 11 + 42 * a.b in
    let e : at + 42 - at ≡ 42 = omega arith in
    let g : a.p + 7 - a.p ≡ 7 = omega arith in
    rw (e, g) (
      length-take-le 42 (drop at a.state.now) (omega (arith, p.0, p.1, length-drop at a.state.now)),
      p.2,
      length-take-le 7 (drop a.p a.out.now) (omega (arith, p.3, p.4, length-drop a.p a.out.now)),
    )

pub returns : goal.returns
returns c =
    let a = c.args in
    let at = 11 + 42 * a.b in
    let e : at + 42 - at ≡ 42 = omega arith in
    let g : a.p + 7 - a.p ≡ 7 = omega arith in
    let done = rw e at c.tell.ensures in
    rw g (ap (λ (ys : List ℕ). take a.p a.out.now ++ (ys ++ drop 7 (drop a.p a.out.now))) done)
