-- `feed_after`: the votes moved towards the beginning, the vote behind them last.
use mathlib.Core.Path.{◌≡◌, ◌∙◌}
use Prim.Native.Nat.{ℕ, ◌+◌, ◌-◌, ◌/◌}
use lib.ListN.{length, set, take, drop}
use native.Mathlib.Omega.{arith}
use Rattle.digits.specs.Digits.{digits_of}
use Rattle.levels.specs.Sizes.{quarter_of}
use Rattle.slips.specs.Slips.{lent_from}
use Rattle.judge.proofs.Quartered.{lent_length, moved_fit, early-first, early-votes}
use Rattle.verdict_blocks.specs.Readings.{majorities, after_votes}
use Rattle.verdict_blocks.proofs.Several.{by-votes}
use Rattle.verdict_blocks.proofs.votes.feed_after.Goals as goal

pub overflow_cast-moved : goal.overflow_cast-moved
overflow_cast-moved c = omega (arith, c.requires.4)

pub bounds-moved-frames : goal.bounds-moved-frames
bounds-moved-frames c = omega (arith, c.requires.1.accepted.framed.few, c.requires.2.size)

pub bounds-moved-1 : goal.bounds-moved-1
bounds-moved-1 c = omega (arith, moved_fit c.requires.2 c.requires.1.accepted.framed.few (length c.args.line.now / c.args.row.bytes + 1) c.args.next)

pub slice_bounds-feed_way-end : goal.slice_bounds-feed_way-end
slice_bounds-feed_way-end c = omega (arith, moved_fit c.requires.2 c.requires.1.accepted.framed.few (length c.args.line.now / c.args.row.bytes + 1) c.args.next)

pub feed_way-requires : goal.feed_way-requires
feed_way-requires c =
    let a = c.args in
    let p = c.requires in
    let F = length a.line.now / a.row.bytes in
    let moved = set a.votes (F + 1) a.next in
    let fits = moved_fit p.2 p.1.accepted.framed.few (F + 1) a.next in
    let size : length (take (F + 2 - 2) (drop 2 (set a.votes (F + 1) a.next))) ≡ F = omega (arith, lent_length 2 (F + 2) (set a.votes (F + 1) a.next) (omega (arith, fits))) in
    rw size (p.0, omega arith, p.1, p.3)

pub shape_of-state : goal.shape_of-state
shape_of-state c = c.feed_way.auto.state

pub shape_of-room : goal.shape_of-room
shape_of-room c = c.feed_way.auto.room

pub shape_of-scratch : goal.shape_of-scratch
shape_of-scratch c = c.feed_way.auto.scratch

pub returns : goal.returns
returns c =
    let a = c.args in
    let p = c.requires in
    let F = length a.line.now / a.row.bytes in
    let e : F + 2 - 2 ≡ F = omega arith in
    let few = p.1.accepted.framed.few in
    let fits = moved_fit p.2 few (F + 1) a.next in
    let size : length (take (F + 2 - 2) (drop 2 (set a.votes (F + 1) a.next))) ≡ F = omega (arith, lent_length 2 (F + 2) (set a.votes (F + 1) a.next) (omega (arith, fits))) in
    let lent : ℕ → ℕ → ℕ = λ (j : ℕ). lent_from a.base (digits_of (quarter_of a.sent.now j)) in
    c.feed_way.ensures
    ∙ by-votes a.row a.pattern lent a.line.now (after_votes (majorities a.row a.line.now) a.next) a.state.now 3
    (c.from-first.ensures ∙ early-first p.2 a.next few) (rw e (early-votes p.2 a.next few)) size
