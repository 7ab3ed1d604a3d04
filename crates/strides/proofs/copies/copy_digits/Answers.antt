-- `copy_digits`: the digits before p are put (proofs/Putting.antt).
use mathlib.Core.Path.{◌≡◌, refl, ◌∙◌}
use native.Mathlib.Omega.{arith}
use Rattle.strides.proofs.Putting.{puts_none, puts_one, put_is}
use Rattle.strides.proofs.copies.copy_digits.Goals as goal

pub loop-p-init : goal.loop-p-init
loop-p-init c =
    (refl, puts_none c.args.piece.now _ _ c.args.first)

pub put_digit-requires : goal.put_digit-requires
put_digit-requires c =
    let l = c.loop-p in
    (omega (arith, c.requires.3, l.invariant.0, c.loop-p-test.true), c.digit_at.ensures.1)

pub loop-p-preserved : goal.loop-p-preserved
loop-p-preserved c =
    let l = c.loop-p in
    let t = c.loop-p-test.true in
    let put = c.put_digit in (
      put.auto.s ∙ l.invariant.0,
      puts_one c.args.piece.now _ c.args.to c.args.first l.p _ _ l.f _ (omega arith) (omega (arith, t, c.requires.1)) refl
          c.digit_at.ensures.0 l.invariant.1 (put_is _ _ _ _ put.ensures.0 put.ensures.1),
    )

pub shape_of-f : goal.shape_of-f
shape_of-f c = c.loop-p.invariant.0

pub returns : goal.returns
returns c =
    let l = c.loop-p in
    let e : l.p ≡ c.args.end = omega (arith, c.requires.0) in
    rw e at l.invariant.1
