-- `hear_frame`: place after place.
use mathlib.Core.Path.{◌≡◌, sym, ◌∙◌, ap, subst}
use native.Mathlib.Omega.{arith}
use Prim.Native.Nat.{ℕ}
use Rattle.engine.specs.Engine.{wrong_to}
use Rattle.plain.specs.Walk.{Voted}
use Rattle.plain.proofs.Votes.{wrong-more, wrong-none}
use Rattle.plain.proofs.reading.hear_frame.Goals as goal

pub loop-q-init : goal.loop-q-init
loop-q-init c = (sym (wrong-none _ _ _), omega arith, c.requires.2)

pub hear_place-wrong-requires : goal.hear_place-wrong-requires
hear_place-wrong-requires c =
    (c.requires.0, omega arith, c.requires.1, c.loop-q.invariant.2)

pub overflow_add-wrong : goal.overflow_add-wrong
overflow_add-wrong c =
    omega (arith, c.loop-q.invariant.1, c.requires.0.short, c.hear_place-wrong.ensures.1)

pub loop-q-preserved : goal.loop-q-preserved
loop-q-preserved c =
    let i = c.loop-q.invariant in
    let h = c.hear_place-wrong.ensures in
    (rw (h.0, i.0) (sym (wrong-more _ _ _ _)), omega (arith, h.1, i.1), h.2)

pub returns : goal.returns
returns c =
    let i = c.loop-q.invariant in
    let end : c.loop-q.q ≡ c.args.row.digits = omega arith in
    let a = c.args in
    (i.0 ∙ ap (wrong_to a.row a.line.now a.f) end, omega arith, subst (λ (n : ℕ). Voted a.row a.line.now a.f n c.loop-q.votes) end i.2)
