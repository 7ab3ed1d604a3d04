-- `read_short` reads digit after digit. The invariant: the window so far, and that it has no more digits.
use mathlib.Core.Path.{◌≡◌, refl}
use native.Mathlib.Omega.{arith}
use native.Mathlib.Numerals.{add-one}
use Rattle.digits.specs.Digits.{window_at}
use Rattle.digits.proofs.Windows.{window_more}
use Rattle.words.proofs.read_short.Goals as goal

pub loop-k-init : goal.loop-k-init
unfolding window_at
loop-k-init c = (refl, omega arith)

pub loop-k-preserved : goal.loop-k-preserved
unfolding window_at
loop-k-preserved c =
    let l = c.loop-k in
    let d = c.digit_at.ensures in
    (rw (add-one l.k, d.0, l.invariant.0) refl, window_more l.k l.r c.digit_at.result l.invariant.1 d.1)

pub returns : goal.returns
returns c =
    let l = c.loop-k in
    let end : l.k ≡ c.args.n = omega arith in
    rw (← end) l.invariant
