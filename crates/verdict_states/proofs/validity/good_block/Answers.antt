-- `good_block`: what stands beside the lanes, then the lanes.
use mathlib.Core.Path.{◌≡◌, sym, ◌∙◌, ap}
use mathlib.Core.Bool.{true, false}
use mathlib.Core.List.{List}
use Prim.Native.Nat.{ℕ}
use Rattle.verdict_blocks.specs.Keeping.{standing_from, block_from}
use Rattle.verdict_states.specs.States.{good_standing, good_window, good_lanes}
use Rattle.verdict_states.proofs.validity.good_block.Goals as goal

pub returns-then-not-good_standing : goal.returns-then-not-good_standing
unfolding block_from
returns-then-not-good_standing c =
    let a = c.args in
    let one : good_standing a.pattern (standing_from a.block.now) ≡ false =
    sym (rw c.standing_of-s.ensures at c.good_standing.ensures) ∙ c.if-not-good_standing.true in
    rw one

pub returns-then-not-good_window : goal.returns-then-not-good_window
unfolding block_from
returns-then-not-good_window c =
    let a = c.args in
    let one : good_standing a.pattern (standing_from a.block.now) ≡ true =
    sym (rw c.standing_of-s.ensures at c.good_standing.ensures) ∙ c.if-not-good_standing.false in
    let two : good_window a.pattern (standing_from a.block.now) ≡ false =
    sym (rw c.standing_of-s.ensures at c.good_window.ensures) ∙ c.if-not-good_window.true in
    rw (one, two)

pub returns : goal.returns
unfolding block_from
returns c =
    let a = c.args in
    let one : good_standing a.pattern (standing_from a.block.now) ≡ true =
    sym (rw c.standing_of-s.ensures at c.good_standing.ensures) ∙ c.if-not-good_standing.false in
    let two : good_window a.pattern (standing_from a.block.now) ≡ true =
    sym (rw c.standing_of-s.ensures at c.good_window.ensures) ∙ c.if-not-good_window.false in
    rw (one, two) (c.good_lanes.ensures ∙ ap (λ (v : List ℕ). good_lanes v 16) c.load.ensures)
