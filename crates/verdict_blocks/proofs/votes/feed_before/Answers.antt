-- `feed_before`: the votes moved towards the end, the vote before them first.
use mathlib.Core.Path.{◌≡◌, refl, ◌∙◌}
use Prim.Native.Nat.{ℕ, ◌-◌, ◌/◌}
use lib.ListN.{length, set, take, drop}
use native.Mathlib.Omega.{arith}
use Rattle.digits.specs.Digits.{digits_of}
use Rattle.levels.specs.Sizes.{quarter_of}
use Rattle.slips.specs.Slips.{lent_from}
use Rattle.judge.proofs.Quartered.{lent_length, moved_fit, late-votes}
use Rattle.verdict_blocks.specs.Readings.{majorities, before_votes}
use Rattle.verdict_blocks.proofs.Several.{by-votes}
use Rattle.verdict_blocks.proofs.votes.feed_before.Goals as goal

pub overflow_cast-moved : goal.overflow_cast-moved
overflow_cast-moved c = omega (arith, c.requires.5)

pub slice_bounds-feed_way-end : goal.slice_bounds-feed_way-end
slice_bounds-feed_way-end c = omega (arith, moved_fit c.requires.2 c.requires.1.accepted.framed.few 0 c.args.last)

pub feed_way-requires : goal.feed_way-requires
feed_way-requires c =
    let a = c.args in
    let p = c.requires in
    let F = length a.line.now / a.row.bytes in
    let fits = moved_fit p.2 p.1.accepted.framed.few 0 a.last in
    let size : length (take (F - 0) (drop 0 (set a.votes 0 a.last))) ≡ F = omega (arith, lent_length 0 F (set a.votes 0 a.last) (omega (arith, fits))) in
    rw size (p.0, p.4, p.1, p.3)

pub shape_of-state : goal.shape_of-state
shape_of-state c = c.feed_way.auto.state

pub shape_of-room : goal.shape_of-room
shape_of-room c = c.feed_way.auto.room

pub shape_of-scratch : goal.shape_of-scratch
shape_of-scratch c = c.feed_way.auto.scratch

pub returns : goal.returns
returns c =
    let a = c.args in
    let p = c.requires in
    let F = length a.line.now / a.row.bytes in
    let e : F - 0 ≡ F = omega arith in
    let fits = moved_fit p.2 p.1.accepted.framed.few 0 a.last in
    let size : length (take (F - 0) (drop 0 (set a.votes 0 a.last))) ≡ F = omega (arith, lent_length 0 F (set a.votes 0 a.last) (omega (arith, fits))) in
    let lent : ℕ → ℕ → ℕ = λ (j : ℕ). lent_from a.base (digits_of (quarter_of a.sent.now j)) in
    c.feed_way.ensures
    ∙ by-votes a.row a.pattern lent a.line.now (before_votes a.older a.last (majorities a.row a.line.now)) a.state.now a.w refl
    (rw e (late-votes p.2 a.last)) size
