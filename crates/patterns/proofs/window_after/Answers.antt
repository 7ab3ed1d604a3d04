-- `window_after`: eight digits after eight, and then digit after digit.
use mathlib.Core.Path.{◌≡◌}
use Prim.Native.Nat.{◌+◌, ◌*◌, ◌/◌}
use native.Mathlib.Omega.{arith}
use Rattle.patterns.proofs.Windows.{window-next}
use Rattle.patterns.proofs.window_after.Goals as goal

pub loop-init : goal.loop-init
loop-init c =
    let none : c.args.n / 8 * 8 + 0 ≡ c.args.n / 8 * 8 = omega arith in
    (rw none c.push_eights-w.ensures.0, c.push_eights-w.ensures.1)

pub loop-preserved : goal.loop-preserved
loop-preserved c =
    let l = c.loop in
    let whole = c.args.n / 8 * 8 in
    let on : whole + (l.counter + 1) ≡ whole + l.counter + 1 = omega arith in
    (rw on (window-next _ _ (whole + l.counter) l.w c.made_of.result c.push-w.result l.invariant.0 c.made_of.ensures.0 c.push-w.ensures.0), c.push-w.ensures.1)

pub returns : goal.returns
returns c =
    let l = c.loop in
    let end : c.args.n / 8 * 8 + l.counter ≡ c.args.n = omega arith in
    (rw end at l.invariant.0, l.invariant.1)
