-- `aligned`: record after record is looked at (Lists).
use mathlib.Core.Path.{◌≡◌, ◌∙◌, ap, refl}
use mathlib.Core.List.{[], ◌∷◌}
use Prim.Native.Nat.{ℕ, ◌<◌}
use lib.ListN.{length}
use lib.Seq.{get_or-take}
use native.Mathlib.Omega.{arith}
use Rattle.digits.specs.Sums.{sum_to}
use Rattle.rack.specs.Rack.{aligned_of}
use Rattle.rack.proofs.Lists.{counted-in, aligned-most, looked-at, counted-more, aligned-done}
use Rattle.rack.proofs.aligned.Goals as goal

pub slice_bounds-record-items-end : goal.slice_bounds-record-items-end
slice_bounds-record-items-end c =
    let ys = c.args.records.now in
    let few = counted-in (length ys) in
    let looked = looked-at ys c.counted-number.result c.counted-number.ensures in
    omega (arith, few, c.counted-number.ensures, looked)

pub loop-record-init : goal.loop-record-init
unfolding sum_to
loop-record-init c = refl

pub count_on-n-requires : goal.count_on-n-requires
count_on-n-requires c =
    let ys = c.args.records.now in
    let l = c.loop-record in
    let few = counted-in (length ys) in
    let looked = looked-at ys c.counted-number.result c.counted-number.ensures in
    omega (arith, few, c.counted-number.ensures, looked, aligned-most ys l.record-index, l.invariant, c.loop-record-test.true)

pub loop-record-preserved : goal.loop-record-preserved
loop-record-preserved c =
    let ys = c.args.records.now in
    let l = c.loop-record in
    let few = counted-in (length ys) in
    let looked = looked-at ys c.counted-number.result c.counted-number.ensures in
    let here : l.record-index < c.counted-number.result = omega (arith, looked, c.loop-record-test.true) in
    let inside : l.record-index < length ys = omega (arith, few, c.counted-number.ensures, here) in
    counted-more ys l.record-index _ inside _ _ l.invariant (rw get_or-take at c.count_on-n.ensures)

pub returns : goal.returns
returns c =
    let ys = c.args.records.now in
    let looked = looked-at ys c.counted-number.result c.counted-number.ensures in
    let e : c.loop-record.record-index ≡ c.counted-number.result = omega (arith, looked) in
    aligned-done ys c.counted-number.result _ _ c.counted-number.ensures c.tell.ensures.0
    (c.tell.ensures.1 ∙ ap (λ (n : ℕ). n ∷ []) (c.loop-record.invariant ∙ ap (aligned_of ys) e))
