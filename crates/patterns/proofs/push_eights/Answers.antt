-- `push_eights`: eight digits after eight.
use mathlib.Core.Path.{◌≡◌, refl}
use native.Mathlib.Omega.{arith}
use Rattle.patterns.specs.Patterns.{window_after}
use Rattle.patterns.proofs.Eights.{eights-next}
use Rattle.patterns.proofs.push_eights.Goals as goal

pub loop-init : goal.loop-init
unfolding window_after
loop-init c = (refl, c.requires.1)

pub loop-preserved : goal.loop-preserved
loop-preserved c =
    let l = c.loop in
    (eights-next _ _ l.counter l.w c.push_eight-w.result l.invariant.0 c.push_eight-w.ensures.0, c.push_eight-w.ensures.1)

pub returns : goal.returns
returns c =
    let l = c.loop in
    let end : l.counter ≡ c.args.n = omega arith in
    (rw (← end) l.invariant.0, l.invariant.1)
