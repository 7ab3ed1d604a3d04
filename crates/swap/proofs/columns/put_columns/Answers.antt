-- `put_columns`: the columns of the eights so far have the tributary's digits, at the end no more than there are.
use mathlib.Core.Path.{◌≡◌, refl}
use Prim.Native.Nat.{◌+◌, ◌*◌, min}
use native.Mathlib.Omega.{arith}
use Rattle.digits.specs.Digits.{Bytes}
use Rattle.swap.proofs.Eights.{ran-none, ran-more}
use Rattle.swap.proofs.columns.put_columns.Goals as goal

pub loop-eight-init : goal.loop-eight-init
loop-eight-init c =
    let bytes : Bytes c.args.line.now = λ i. omega (arith, c.type_inv.line i) in
    let none : min (8 * 0) c.args.columns ≡ 0 = omega arith in
    rw none (ran-none _ _ _ _ _ bytes)

pub put_eight-requires : goal.put_eight-requires
put_eight-requires c =
    let l = c.loop-eight in (
      c.requires.0,
      omega (arith, l.invariant.kept, c.requires.3),
      omega (arith, c.requires.4),
      c.requires.6,
    )

pub loop-eight-preserved : goal.loop-eight-preserved
loop-eight-preserved c =
    let l = c.loop-eight in
    let k = 8 * l.eight in
    let at = c.min-c.result in
    let more : min (8 * (l.eight + 1)) c.args.columns ≡ at + 8 = omega arith in
    rw more (ran-more _ _ _ _ _ _ _ _ _ _ _ _ l.invariant (omega arith) (omega arith) (omega arith) refl c.put_eight.ensures)

pub shape_of-line : goal.shape_of-line
shape_of-line c = c.loop-eight.invariant.kept

pub returns : goal.returns
returns c =
    let l = c.loop-eight in
    let end : min (8 * l.eight) c.args.columns ≡ c.args.columns = omega arith in
    rw end at l.invariant
