-- The invariant: none of the frames passed begins the multiframe, so that it is the first of those left (Starting).
use mathlib.Core.Path.{◌≡◌, refl, sym, ◌∙◌}
use Prim.Native.Nat.{◌-◌}
use native.Mathlib.Omega.{arith}
use Rattle.multiframe_start.specs.Start.{start_among}
use Rattle.multiframe_start.proofs.Starting.{start-step}
use Rattle.multiframe_start.proofs.first_start.Goals as goal

pub returns-then-is_start : goal.returns-then-is_start
returns-then-is_start c =
    let l = c.loop-f in
    let is = sym c.is_start.ensures ∙ c.if-is_start.true in
    (sym (l.invariant ∙ start-step _ l.f (omega arith) ∙ rw is refl), omega arith)

pub loop-f-preserved : goal.loop-f-preserved
loop-f-preserved c =
    let l = c.loop-f in
    let none = sym c.is_start.ensures ∙ c.if-is_start.false in
    l.invariant ∙ start-step _ l.f (omega arith) ∙ rw none refl

pub returns : goal.returns
unfolding start_among
returns c =
    let l = c.loop-f in
    let end : 16 - l.f ≡ 0 = omega arith in
    (sym (l.invariant ∙ rw end refl), tt)
