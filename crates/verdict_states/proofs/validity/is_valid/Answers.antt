-- `is_valid`: what stands before the blocks, then the blocks.
use mathlib.Core.Path.{◌≡◌, sym, ◌∙◌}
use mathlib.Core.Bool.{true}
use lib.ListN.{get_or}
use Rattle.verdict_states.specs.States.{state_from, good_head}
use Rattle.verdict_states.proofs.Good.{head-pattern, pattern-low}
use Rattle.verdict_states.proofs.validity.is_valid.Goals as goal

pub good_blocks-requires : goal.good_blocks-requires
good_blocks-requires c =
    let ns = c.args.state.now in
    let one : good_head (state_from ns) ≡ true = sym c.good_head.ensures ∙ c.if-good_head.true in
    (c.requires, pattern-low (get_or ns 1 0) (head-pattern ns one))

pub returns-then-good_head : goal.returns-then-good_head
unfolding state_from
returns-then-good_head c =
    let ns = c.args.state.now in
    let one : good_head (state_from ns) ≡ true = sym c.good_head.ensures ∙ c.if-good_head.true in
    rw one c.good_blocks.ensures
