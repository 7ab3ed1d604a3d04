-- `feed_own`: the votes as they stand.
use mathlib.Core.Path.{◌≡◌, refl, ◌∙◌}
use Prim.Native.Nat.{ℕ, ◌+◌, ◌-◌, ◌/◌}
use lib.ListN.{length}
use native.Mathlib.Omega.{arith}
use Rattle.digits.specs.Digits.{digits_of}
use Rattle.levels.specs.Sizes.{quarter_of}
use Rattle.slips.specs.Slips.{lent_from}
use Rattle.verdict_blocks.specs.Readings.{majorities, own_votes}
use Rattle.verdict_blocks.proofs.Several.{by-votes, own-size}
use Rattle.verdict_blocks.proofs.votes.feed_own.Goals as goal

pub slice_bounds-feed_way-end : goal.slice_bounds-feed_way-end
slice_bounds-feed_way-end c = omega (arith, c.requires.1.accepted.framed.few, c.requires.2.size)

pub feed_way-requires : goal.feed_way-requires
feed_way-requires c =
    let a = c.args in
    let p = c.requires in
    let F = length a.line.now / a.row.bytes in
    let size = own-size p.2 p.1.accepted.framed.few in
    rw size (p.0, omega arith, p.1, p.3)

pub shape_of-state : goal.shape_of-state
shape_of-state c = c.feed_way.auto.state

pub shape_of-room : goal.shape_of-room
shape_of-room c = c.feed_way.auto.room

pub shape_of-scratch : goal.shape_of-scratch
shape_of-scratch c = c.feed_way.auto.scratch

pub returns : goal.returns
returns c =
    let a = c.args in
    let p = c.requires in
    let F = length a.line.now / a.row.bytes in
    let e : F + 1 - 1 ≡ F = omega arith in
    let size = own-size p.2 p.1.accepted.framed.few in
    let lent : ℕ → ℕ → ℕ = λ (j : ℕ). lent_from a.base (digits_of (quarter_of a.sent.now j)) in
    c.feed_way.ensures
    ∙ by-votes a.row a.pattern lent a.line.now (own_votes a.last (majorities a.row a.line.now)) a.state.now 0 refl (rw e p.2.read) size
