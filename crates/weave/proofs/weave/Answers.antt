-- `weave` adds the four spread words, each a digit further left in its column.
use native.Mathlib.Omega.{arith}
use Rattle.weave.specs.Weave.{weave_of}
use Rattle.weave.proofs.weave.Goals as goal

pub returns : goal.returns
unfolding weave_of
returns c =
    let a = c.spread.ensures in
    let b = c.spread-2.ensures in
    let d = c.spread-3.ensures in
    let e = c.spread-4.ensures in
    (rw (a.0, b.0, d.0, e.0), omega (arith, a.1, b.1, d.1, e.1))
