-- `carry_on` goes to the digit before the check, or to the last one (proofs/Hurries.antt).
use mathlib.Core.Path.{◌≡◌, ap, ◌∙◌}
use Prim.Native.Nat.{◌+◌, ◌-◌}
use native.Mathlib.Omega.{arith}
use Rattle.digits.specs.Digits.{digits_of}
use Rattle.strides.specs.Strides.{window_from}
use Rattle.finder_2048.proofs.Hurries.{placed-check, hurried-carry}
use Rattle.finder_2048.proofs.hurry.carry_on.Goals as goal

pub overflow_sub-check_at : goal.overflow_sub-check_at
overflow_sub-check_at c = omega (arith, c.check_at.ensures, placed-check c.args.s.mode _ c.requires.1 c.requires.0.place)

pub overflow_sub-check_at-2 : goal.overflow_sub-check_at-2
overflow_sub-check_at-2 c = omega (arith, c.check_at.ensures, placed-check c.args.s.mode _ c.requires.1 c.requires.0.place)

pub returns : goal.returns
returns c =
    let far = placed-check c.args.s.mode _ c.requires.1 c.requires.0.place in
    let first = c.args.first in
    let n = c.lesser-n.result in
    let at_most = c.lesser-n.ensures in
    let some : first + n - first ≡ n = omega arith in
    hurried-carry _ _ _ _ n _ c.requires.0 c.requires.1 (omega (arith, at_most, c.requires.3)) c.requires.4
    (omega (arith, at_most, far, c.check_at.ensures))
    (c.window_over-window.ensures ∙ ap (window_from 7 (digits_of c.args.piece.now) first c.args.s.window) some)
