-- `put_blocks`: block after block.
use mathlib.Core.Path.{◌≡◌, sym, ◌∙◌, ap}
use mathlib.Core.List.{append-nil}
use Prim.Native.Nat.{ℕ, ◌+◌, ◌*◌}
use native.Mathlib.Omega.{arith}
use lib.ListN.{length, take}
use Rattle.verdict_blocks.specs.Blocks.{fresh_block}
use Rattle.verdict_states.specs.States.{blocks_numbers}
use Rattle.verdict_blocks.proofs.Kept.{take_all}
use Rattle.verdict_blocks.proofs.Waying.{with-length}
use Rattle.verdict_states.proofs.Made.{fresh-whole, blocks_more}
use Rattle.verdict_states.proofs.fresh.put_blocks.Goals as goal

pub loop-b-init : goal.loop-b-init
unfolding blocks_numbers
loop-b-init c = (c.requires, sym (append-nil (take 11 c.args.state.now)))

pub loop-b-preserved : goal.loop-b-preserved
loop-b-preserved c =
    let a = c.args in
    let l = c.loop-b in
    let p = c.put_fresh_at in
    let x = fresh_block a.pattern in (
      ap length p.ensures ∙ with-length l.state l.b x l.invariant.0 (omega arith) (fresh-whole a.pattern),
      ap (take (11 + 42 * (l.b + 1))) p.ensures
          ∙ blocks_more l.state (take 11 a.state.now) l.b (λ (k : ℕ). x) (omega (arith, l.invariant.0)) (fresh-whole a.pattern) l.invariant.1,
    )

pub shape_of-state : goal.shape_of-state
shape_of-state c = c.loop-b.invariant.0 ∙ sym c.requires

pub returns : goal.returns
returns c =
    let l = c.loop-b in
    let end : l.b ≡ 16 = omega arith in
    sym (take_all l.state 683 l.invariant.0) ∙ (rw end at l.invariant.1)
