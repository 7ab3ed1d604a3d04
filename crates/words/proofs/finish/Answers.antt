-- `finish` fills the last byte with zeros and stores byte after byte. The invariant: nothing is appended, and what is held are whole bytes.
use mathlib.Core.Path.{refl, ◌∙◌}
use native.Mathlib.Omega.{arith}
use lib.Pow.{pow_pos}
use Rattle.words.proofs.Writing.{appended-none, appended-more, finished}
use Rattle.words.proofs.finish.Goals as goal

pub put-w-requires : goal.put-w-requires
put-w-requires c =
    let pre = c.requires in
    (pre.0, omega arith, pow_pos _, omega (arith, pre.1))

pub loop-w-init : goal.loop-w-init
loop-w-init c =
    let put = c.put-w in
    let pre = c.requires in
    let p = put.ensures in
    (omega (arith, p.place), omega (arith, p.place, put.auto.s, pre.1), refl, appended-none _ _ p.ready)

pub store_first-w-requires : goal.store_first-w-requires
store_first-w-requires c =
    let l = c.loop-w in
    (l.invariant.3.ready, omega (arith, c.loop-w-test.true), omega (arith, c.loop-w-test.true))

pub loop-w-preserved : goal.loop-w-preserved
loop-w-preserved c =
    let l = c.loop-w in
    let f = c.store_first-w in
    (omega (arith, f.ensures.1), omega (arith, f.ensures.0.place, f.ensures.1, f.auto.s), f.auto.s ∙ l.invariant.2, appended-more l.invariant.3 f.ensures.0)

pub shape_of-s : goal.shape_of-s
shape_of-s c = c.loop-w.invariant.2 ∙ c.put-w.auto.s

pub returns : goal.returns
returns c = finished _ _ _ _ _ _ c.put-w.ensures c.loop-w.invariant.3 (omega (arith, c.loop-w-test.false))
