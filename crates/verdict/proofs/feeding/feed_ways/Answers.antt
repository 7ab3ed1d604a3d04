-- `feed_ways`: four ways, each with the blocks that the ones before left alone.
use mathlib.Core.Path.{◌∙◌}
use Prim.Native.Nat.{ℕ, ◌+◌, ◌*◌}
use native.Mathlib.Omega.{arith}
use lib.ListN.{length, get_or}
use Rattle.digits.specs.Digits.{digits_of}
use Rattle.levels.specs.Sizes.{frames_of, quarter_of}
use Rattle.slips.specs.Slips.{lent_from}
use Rattle.verdict.specs.Going.{FedTo}
use Rattle.verdict.proofs.Fed.{fed_at, one_way, two_ways, three_ways, four-ways, still-ready}
use Rattle.verdict.proofs.feeding.feed_ways.Goals as goal

pub feed_own-requires : goal.feed_own-requires
feed_own-requires c = let p = c.requires in (p.0, p.1, p.2, λ j hj. p.3 (4 * 0 + j) (omega arith))

pub feed_before-requires : goal.feed_before-requires
feed_before-requires c =
    let fed-1 : let a = c.args in FedTo a.state.now (fed_at a.row a.state.now a.line.now a.next (λ (j : ℕ). lent_from a.base (digits_of (quarter_of a.sent.now j)))) 1 c.feed_own.new.state = let a = c.args in
    let p = c.requires in
    one_way a.row a.state.now a.line.now a.next (λ (j : ℕ). lent_from a.base (digits_of (quarter_of a.sent.now j))) p.1.shared
    p.1.accepted.framed.few p.3 p.0 c.feed_own.new.state c.feed_own.ensures in
    let p = c.requires in
    let a = c.args in
    let fed = fed-1 in (
      fed.size,
      rw (c.feed_own.auto.room, c.feed_own.auto.scratch) p.1,
      p.2,
      λ j hj. still-ready fed (get_or a.state.now 1 0) (frames_of a.row (length a.line.now)) (4 * 1 + j) (omega arith) (omega arith) (p.3 (4 * 1 + j) (omega arith)),
      omega arith,
      p.5,
    )

pub feed_before-requires-2 : goal.feed_before-requires-2
feed_before-requires-2 c =
    let fed-1 : let a = c.args in FedTo a.state.now (fed_at a.row a.state.now a.line.now a.next (λ (j : ℕ). lent_from a.base (digits_of (quarter_of a.sent.now j)))) 1 c.feed_own.new.state = let a = c.args in
    let p = c.requires in
    one_way a.row a.state.now a.line.now a.next (λ (j : ℕ). lent_from a.base (digits_of (quarter_of a.sent.now j))) p.1.shared
    p.1.accepted.framed.few p.3 p.0 c.feed_own.new.state c.feed_own.ensures in
    let fed-2 : let a = c.args in FedTo a.state.now (fed_at a.row a.state.now a.line.now a.next (λ (j : ℕ). lent_from a.base (digits_of (quarter_of a.sent.now j)))) 2 c.feed_before.new.state = let a = c.args in
    let p = c.requires in
    two_ways a.row a.state.now a.line.now a.next (λ (j : ℕ). lent_from a.base (digits_of (quarter_of a.sent.now j))) p.1.shared
    p.1.accepted.framed.few p.3 p.0 c.feed_own.new.state c.feed_before.new.state (fed-1) c.feed_before.ensures in
    let p = c.requires in
    let a = c.args in
    let fed = fed-2 in (
      fed.size,
      rw (c.feed_before.auto.room, c.feed_before.auto.scratch, c.feed_own.auto.room, c.feed_own.auto.scratch) p.1,
      p.2,
      λ j hj. still-ready fed (get_or a.state.now 1 0) (frames_of a.row (length a.line.now)) (4 * 2 + j) (omega arith) (omega arith) (p.3 (4 * 2 + j) (omega arith)),
      omega arith,
      p.6,
    )

pub feed_next-requires : goal.feed_next-requires
feed_next-requires c =
    let fed-1 : let a = c.args in FedTo a.state.now (fed_at a.row a.state.now a.line.now a.next (λ (j : ℕ). lent_from a.base (digits_of (quarter_of a.sent.now j)))) 1 c.feed_own.new.state = let a = c.args in
    let p = c.requires in
    one_way a.row a.state.now a.line.now a.next (λ (j : ℕ). lent_from a.base (digits_of (quarter_of a.sent.now j))) p.1.shared
    p.1.accepted.framed.few p.3 p.0 c.feed_own.new.state c.feed_own.ensures in
    let fed-2 : let a = c.args in FedTo a.state.now (fed_at a.row a.state.now a.line.now a.next (λ (j : ℕ). lent_from a.base (digits_of (quarter_of a.sent.now j)))) 2 c.feed_before.new.state = let a = c.args in
    let p = c.requires in
    two_ways a.row a.state.now a.line.now a.next (λ (j : ℕ). lent_from a.base (digits_of (quarter_of a.sent.now j))) p.1.shared
    p.1.accepted.framed.few p.3 p.0 c.feed_own.new.state c.feed_before.new.state (fed-1) c.feed_before.ensures in
    let fed-3 : let a = c.args in FedTo a.state.now (fed_at a.row a.state.now a.line.now a.next (λ (j : ℕ). lent_from a.base (digits_of (quarter_of a.sent.now j)))) 3 c.feed_before-2.new.state = let a = c.args in
    let p = c.requires in
    three_ways a.row a.state.now a.line.now a.next (λ (j : ℕ). lent_from a.base (digits_of (quarter_of a.sent.now j))) p.1.shared
    p.1.accepted.framed.few p.3 p.0 c.feed_before.new.state c.feed_before-2.new.state (fed-2) c.feed_before-2.ensures in
    let p = c.requires in
    let a = c.args in
    let fed = fed-3 in (
      fed.size,
      rw (c.feed_before-2.auto.room, c.feed_before-2.auto.scratch, c.feed_before.auto.room, c.feed_before.auto.scratch, c.feed_own.auto.room, c.feed_own.auto.scratch) p.1,
      p.2,
      λ j hj. still-ready fed (get_or a.state.now 1 0) (frames_of a.row (length a.line.now)) (4 * 3 + j) (omega arith) (omega arith) (p.3 (4 * 3 + j) (omega arith)),
      p.4,
    )

pub shape_of-state : goal.shape_of-state
shape_of-state c = c.feed_next.auto.state ∙ c.feed_before-2.auto.state ∙ c.feed_before.auto.state ∙ c.feed_own.auto.state

pub shape_of-room : goal.shape_of-room
shape_of-room c = c.feed_next.auto.room ∙ c.feed_before-2.auto.room ∙ c.feed_before.auto.room ∙ c.feed_own.auto.room

pub shape_of-scratch : goal.shape_of-scratch
shape_of-scratch c = c.feed_next.auto.scratch ∙ c.feed_before-2.auto.scratch ∙ c.feed_before.auto.scratch ∙ c.feed_own.auto.scratch

pub returns : goal.returns
returns c =
    let fed-1 : let a = c.args in FedTo a.state.now (fed_at a.row a.state.now a.line.now a.next (λ (j : ℕ). lent_from a.base (digits_of (quarter_of a.sent.now j)))) 1 c.feed_own.new.state = let a = c.args in
    let p = c.requires in
    one_way a.row a.state.now a.line.now a.next (λ (j : ℕ). lent_from a.base (digits_of (quarter_of a.sent.now j))) p.1.shared
    p.1.accepted.framed.few p.3 p.0 c.feed_own.new.state c.feed_own.ensures in
    let fed-2 : let a = c.args in FedTo a.state.now (fed_at a.row a.state.now a.line.now a.next (λ (j : ℕ). lent_from a.base (digits_of (quarter_of a.sent.now j)))) 2 c.feed_before.new.state = let a = c.args in
    let p = c.requires in
    two_ways a.row a.state.now a.line.now a.next (λ (j : ℕ). lent_from a.base (digits_of (quarter_of a.sent.now j))) p.1.shared
    p.1.accepted.framed.few p.3 p.0 c.feed_own.new.state c.feed_before.new.state (fed-1) c.feed_before.ensures in
    let fed-3 : let a = c.args in FedTo a.state.now (fed_at a.row a.state.now a.line.now a.next (λ (j : ℕ). lent_from a.base (digits_of (quarter_of a.sent.now j)))) 3 c.feed_before-2.new.state = let a = c.args in
    let p = c.requires in
    three_ways a.row a.state.now a.line.now a.next (λ (j : ℕ). lent_from a.base (digits_of (quarter_of a.sent.now j))) p.1.shared
    p.1.accepted.framed.few p.3 p.0 c.feed_before.new.state c.feed_before-2.new.state (fed-2) c.feed_before-2.ensures in
    let a = c.args in
    let p = c.requires in
    four-ways a.row a.state.now a.line.now a.next (λ (j : ℕ). lent_from a.base (digits_of (quarter_of a.sent.now j))) p.1.shared
    p.1.accepted.framed.few p.3 p.0 c.feed_before-2.new.state c.feed_next.new.state (fed-3) c.feed_next.ensures
