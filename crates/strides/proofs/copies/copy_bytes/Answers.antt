-- `copy_bytes`: eight digits are put for each turn (proofs/Putting.antt).
use mathlib.Core.Path.{◌≡◌, refl, ◌∙◌}
use native.Mathlib.Omega.{arith}
use lib.ListN.{length-set}
use Rattle.strides.proofs.Putting.{puts-start, puts-byte}
use Rattle.strides.proofs.copies.copy_bytes.Goals as goal

pub loop-k-init : goal.loop-k-init
loop-k-init c =
    ((λ i. omega (arith, c.type_inv.f i)), refl, puts-start c.args.piece.now _ _ c.args.first _ (omega arith))

pub read_digits-requires : goal.read_digits-requires
read_digits-requires c =
    (omega (arith, c.requires.0, c.loop-k-test.true), omega arith, omega arith)

pub loop-k-preserved : goal.loop-k-preserved
loop-k-preserved c =
    let l = c.loop-k in
    let t = c.loop-k-test.true in
    let on =
    puts-byte c.args.piece.now _ l.f _ c.args.at c.args.first l.k _ l.invariant.0 (omega (arith, c.requires.2, l.invariant.1, t)) (omega (arith, c.requires.0, t)) l.invariant.2
    c.read_digits.ensures.0 (omega (arith, c.read_digits.ensures.1)) refl in
    (on.0, length-set l.f _ _ ∙ l.invariant.1, on.1)

pub shape_of-f : goal.shape_of-f
shape_of-f c = c.loop-k.invariant.1

pub returns : goal.returns
returns c =
    let l = c.loop-k in
    let e : l.k ≡ c.args.n = omega arith in
    rw e at l.invariant.2
