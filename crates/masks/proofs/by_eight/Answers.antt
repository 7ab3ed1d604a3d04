-- `by_eight`: one turn more, or nothing is left.
use native.Mathlib.Omega.{arith}
use mathlib.Core.Path.{ap}
use Rattle.masks.specs.declared.Lanes.{Lanes}
use Rattle.masks.proofs.Differing.{held_more, held-later, held-lt}
use Rattle.masks.proofs.by_eight.Goals as goal

pub returns-then-l-k : goal.returns-then-l-k
returns-then-l-k c =
    let b = c.requires in
    (held-later _ _ _ _ _ _ _ (omega arith) b.5, b.4, λ _. c.if-l-k.true, λ h. omega (arith, h, c.if-l-k.true))

pub more-requires : goal.more-requires
more-requires c =
    let b = c.requires in
    let h = held-lt _ _ _ _ _ c.args.l (omega (arith, b.3)) b.5 in
    (h.0, h.1, h.2, h.3, omega (arith, b.4, b.2, c.at_most-n.ensures))

pub returns : goal.returns
returns c =
    let b = c.requires in
    let n = c.at_most-n.ensures in
    let e = ap (λ (r : Lanes). r.columns) c.more.ensures in
    let held = held_more _ _ _ c.args.t c.at_most-n.result c.args.l (omega (arith, n)) b.3 b.5 c.few-x.result c.few-x.ensures c.more.result c.more.ensures in
    (held, omega (arith, e, n, b.4), λ h. omega (arith, e, n, h, b.4), λ h. omega (arith, e, n, h, b.4))
