-- `good_blocks`: block after block.
use mathlib.Core.Path.{◌≡◌, sym, ◌∙◌}
use Prim.Native.Nat.{◌+◌}
use native.Mathlib.Omega.{arith}
use Rattle.verdict_blocks.specs.Keeping.{block_at}
use Rattle.verdict_states.proofs.Good.{blocks-none, blocks-next, blocks-bad}
use Rattle.verdict_states.proofs.validity.good_blocks.Goals as goal

pub loop-b-init : goal.loop-b-init
loop-b-init c = blocks-none c.args.pattern (block_at c.args.state.now)

pub returns-then-not-good_at : goal.returns-then-not-good_at
returns-then-not-good_at c =
    let a = c.args in
    let l = c.loop-b in
    let next = blocks-next a.pattern (block_at a.state.now) l.b c.good_at.result l.invariant c.good_at.ensures in
    sym (blocks-bad a.pattern (block_at a.state.now) (l.b + 1) 16 (omega arith) (sym next ∙ c.if-not-good_at.true))

pub loop-b-preserved : goal.loop-b-preserved
loop-b-preserved c =
    let a = c.args in
    let l = c.loop-b in
    let next = blocks-next a.pattern (block_at a.state.now) l.b c.good_at.result l.invariant c.good_at.ensures in
    sym next ∙ c.if-not-good_at.false

pub returns : goal.returns
returns c =
    let l = c.loop-b in
    let end : l.b ≡ 16 = omega arith in
    sym (rw end at l.invariant)
