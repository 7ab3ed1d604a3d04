-- `stretch_judged`: refused as two lines are, then with 7 by the exact sum, or counted.
use native.Mathlib.Omega.{arith}
use mathlib.Core.Path.{sym, ◌∙◌}
use Prim.Native.Nat.{◌+◌, ◌*◌, ◌≤◌, ◌<◌}
use lib.ListN.{length}
use borrow.Author.Tests.{eqb-true, lt-ltb, le-ltb}
use Rattle.compare.proofs.TwoLines.{lines_fit}
use Rattle.compare.proofs.lines.stretch_judged.Goals as goal
use Rattle.compare.proofs.lines.stretch_judged.Goals.{then-digits-first, else-digits-first}

pub returns-then-not-fits : goal.returns-then-not-fits
returns-then-not-fits c = rw (sym c.fits.ensures ∙ c.if-not-fits.true) c.stretch_refused.ensures

pub overflow_mul-digits : goal.overflow_mul-digits
overflow_mul-digits c =
    let f = lines_fit _ c.requires c.args.one.now c.args.other.now (eqb-true _ _ (sym c.fits.ensures ∙ c.if-not-fits.false)) in
    omega (arith, f.short)

pub returns-then-digits-first-2 : goal.returns-then-digits-first-2
returns-then-digits-first-2 c =
    let past : 8 * length c.args.one.now < c.args.first + c.args.count =
    elim c.if-digits-first.branch [
      | then-digits-first w ↦ grind arith
      | else-digits-first w ↦ grind arith
    ] in
    rw (sym c.fits.ensures ∙ c.if-not-fits.false, lt-ltb (8 * length c.args.one.now) (c.args.first + c.args.count) past)
    c.stretch_refused-then-digits-first-2.ensures

pub stretch_on-requires : goal.stretch_on-requires
stretch_on-requires c =
    let within : c.args.first + c.args.count ≤ 8 * length c.args.one.now = grind arith in
    (lines_fit _ c.requires _ _ (eqb-true _ _ (sym c.fits.ensures ∙ c.if-not-fits.false)), within)

pub returns-else-digits-first-2 : goal.returns-else-digits-first-2
returns-else-digits-first-2 c =
    let within : c.args.first + c.args.count ≤ 8 * length c.args.one.now = grind arith in
    rw (sym c.fits.ensures ∙ c.if-not-fits.false, le-ltb (8 * length c.args.one.now) (c.args.first + c.args.count) within) c.stretch_on.ensures
