-- `tell_tributary`: the changes, then block after block.
use mathlib.Core.Path.{◌∙◌}
use Prim.Native.Nat.{◌+◌}
use native.Mathlib.Omega.{arith}
use lib.ListN.{length-set}
use Rattle.verdict.proofs.Telling.{tributary-parts}
use Rattle.verdict.proofs.answer.tell_tributary.Goals as goal

pub tell_at-requires : goal.tell_at-requires
tell_at-requires c =
    let p = c.requires in
    (p.0, omega (arith, p.1), p.2 c.args.j (omega (arith, p.1)), simp length-set p.3, omega arith)

pub tell_at-requires-2 : goal.tell_at-requires-2
tell_at-requires-2 c =
    let p = c.requires in
    let b = c.better_at in
    (p.0, b.ensures.0, p.2 _ b.ensures.0, c.tell_at.auto.out ∙ (simp length-set p.3), omega arith)

pub tell_at-requires-3 : goal.tell_at-requires-3
tell_at-requires-3 c =
    let p = c.requires in
    (p.0, omega (arith, p.1), p.2 (12 + c.args.j) (omega (arith, p.1)), c.tell_at-2.auto.out ∙ (c.tell_at.auto.out ∙ (simp length-set p.3)), omega arith)

pub shape_of-out : goal.shape_of-out
shape_of-out c = c.tell_at-3.auto.out ∙ (c.tell_at-2.auto.out ∙ (c.tell_at.auto.out ∙ simp length-set))

pub returns : goal.returns
returns c =
    let a = c.args in
    tributary-parts a.state.now a.j a.out.now c.requires.3 _ c.tell_at.ensures c.better_at.result c.better_at.ensures.1 _ c.tell_at-2.ensures _ c.tell_at-3.ensures
