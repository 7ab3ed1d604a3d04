-- `by_fourteen`: a turn is fourteen columns, at most thirteen turns.
use native.Mathlib.Omega.{arith}
use mathlib.Core.Path.{◌≡◌, ap}
use Prim.Native.Nat.{◌+◌, ◌*◌, ◌≤◌, ◌<◌}
use Rattle.masks.specs.declared.Lanes.{Lanes}
use Rattle.masks.proofs.Differing.{held_none, held_more, held-later, held-lt}
use Rattle.masks.proofs.by_fourteen.Goals as goal

pub loop-turn-init : goal.loop-turn-init
loop-turn-init c = (omega arith, held_none _ _ _)

pub many-x-requires : goal.many-x-requires
many-x-requires c = (c.requires.0, omega (arith, c.loop-turn-test.true, c.requires.1))

pub more-l-requires : goal.more-l-requires
more-l-requires c =
    let l = c.loop-turn in
    let few : l.turn < 14 = omega (arith, c.loop-turn-test.true, c.requires.2) in
    let b = held-lt _ _ _ _ l.turn l.l (omega arith) l.invariant.1 in
    (b.0, b.1, b.2, b.3, omega (arith, l.invariant.0))

pub loop-turn-preserved : goal.loop-turn-preserved
loop-turn-preserved c =
    let l = c.loop-turn in
    let few : l.turn < 14 = omega (arith, c.loop-turn-test.true, c.requires.2) in
    let e = ap (λ (r : Lanes). r.columns) c.more-l.ensures in
    let here : c.args.p + 56 * l.turn ≡ c.args.p + 4 * l.l.columns = omega (arith, l.invariant.0) in
    let held = held_more _ _ _ l.turn 14 l.l (omega arith) (omega arith) l.invariant.1 c.many-x.result (rw here at c.many-x.ensures) c.more-l.result c.more-l.ensures in
    (omega (arith, e, l.invariant.0), held)

pub returns : goal.returns
returns c =
    let l = c.loop-turn in
    let few : l.turn ≤ 13 = omega (arith, c.requires.2) in
    (held-later _ _ _ _ _ _ _ few l.invariant.1, omega (arith, l.invariant.0), omega (arith, l.invariant.0))
