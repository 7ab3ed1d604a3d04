-- `tell_all`: tributary after tributary.
use mathlib.Core.Path.{◌≡◌, sym, ◌∙◌}
use Prim.Native.Nat.{◌+◌, ◌-◌, ◌*◌}
use native.Mathlib.Omega.{arith}
use lib.ListN.{drop, length-drop}
use lib.Seq.{length-take-le}
use Rattle.verdict_blocks.proofs.Kept.{take_all}
use Rattle.verdict.proofs.Telling.{told_none, told-next, told-all}
use Rattle.verdict.proofs.answer.tell_all.Goals as goal

pub loop-j-init : goal.loop-j-init
loop-j-init c = (omega arith, c.requires.2, told_none c.args.state.now c.args.out.now)

pub slice_bounds-tell_tributary-end : goal.slice_bounds-tell_tributary-end
slice_bounds-tell_tributary-end c = omega (arith, c.loop-j.invariant.1)

pub tell_tributary-requires : goal.tell_tributary-requires
tell_tributary-requires c =
    let l = c.loop-j in
    let p = c.requires in
    let at = 22 * l.j in
    let e : at + 22 - at ≡ 22 = omega arith in
    rw e (p.0, omega arith, p.1, length-take-le 22 (drop at l.out) (omega (arith, l.invariant.1, length-drop at l.out)))

pub loop-j-preserved : goal.loop-j-preserved
loop-j-preserved c =
    let l = c.loop-j in
    let ns = c.args.state.now in
    let at = 22 * l.j in
    let e : at + 22 - at ≡ 22 = omega arith in
    let done = c.tell_tributary.ensures in
    rw e (told-next ns l.j l.out _ (omega arith) l.invariant.1 l.invariant.2 done)

pub shape_of-out : goal.shape_of-out
shape_of-out c = c.loop-j.invariant.1 ∙ sym c.requires.2

pub returns : goal.returns
returns c =
    let l = c.loop-j in
    let end : l.j ≡ 4 = omega arith in
    sym (take_all l.out 88 l.invariant.1) ∙ (rw end at l.invariant.2) ∙ told-all c.args.state.now
