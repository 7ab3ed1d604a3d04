-- `feed_frames`: the votes are read, the ways fed, and the first numbers set anew.
use mathlib.Core.Path.{◌∙◌}
use Prim.Native.Nat.{◌+◌}
use native.Mathlib.Omega.{arith}
use lib.ListN.{length, get_or}
use Rattle.levels.specs.Sizes.{frames_of}
use Rattle.judge.proofs.Quartered.{lent_length}
use Rattle.verdict.specs.Feed.{lent_to}
use Rattle.verdict_states.proofs.Good.{valid-pattern}
use Rattle.verdict.proofs.Unrefused.{last-low, last-all-low, changes-few, valid-ready, fed-same, fed-numbers, running}
use Rattle.verdict.proofs.feeding.feed_frames.Goals as goal

pub read_votes-votes-requires : goal.read_votes-votes-requires
read_votes-votes-requires c = (c.requires.shared, c.requires.framed)

pub room_of-size-requires : goal.room_of-size-requires
room_of-size-requires c = (c.requires.shared, c.requires.framed.few)

pub slice_bounds-room-end : goal.slice_bounds-room-end
slice_bounds-room-end c = omega (arith, c.room_of-size.ensures.0, c.empty_room-room.ensures)

pub slice_bounds-scratch-end : goal.slice_bounds-scratch-end
slice_bounds-scratch-end c = omega (arith, c.empty_scratch-scratch.ensures)

pub feed_ways-requires : goal.feed_ways-requires
feed_ways-requires c =
    let p = c.requires in
    let a = c.args in
    let st = a.state.now in
    let size = c.room_of-size.result in
    let e = c.room_of-size.ensures in
    let lent = lent_length 0 size c.empty_room-room.result (omega (arith, e.0, c.empty_room-room.ensures)) in
    let long = lent_length 0 128 c.empty_scratch-scratch.result (omega (arith, c.empty_scratch-scratch.ensures)) in (
      p.size,
      running a.row p.shared (get_or st 1 0) (length a.line.now) size _ _ _ p.framed (omega (arith, lent)) e.1 e.2 (valid-pattern st p.size p.valid)
          c.base_of-base.ensures.1 (omega (arith, long)),
      c.read_votes-votes.ensures,
      valid-ready st p.size p.valid (frames_of a.row (length a.line.now)) p.framed.few,
      p.known,
      last-low st p.size p.valid,
      last-all-low st p.size p.valid,
    )

pub feed_head-requires : goal.feed_head-requires
feed_head-requires c =
    let p = c.requires in
    let st = c.args.state.now in
    let fed = c.feed_ways.ensures in (
      fed.size,
      p.framed.few,
      rw (fed-same fed 4 (omega arith)) (last-low st p.size p.valid),
      λ j hj. rw (fed-same fed (7 + j) (omega arith)) (changes-few st p.size p.valid j hj),
    )

pub shape_of-state : goal.shape_of-state
shape_of-state c = c.feed_head.auto.state ∙ c.feed_ways.auto.state

pub returns : goal.returns
returns c =
    let p = c.requires in
    let a = c.args in
    fed-numbers a.row a.state.now a.line.now a.next (lent_to a.sent.now a.first) c.read_votes-votes.result c.feed_ways.new.state
    c.feed_head.new.state p.framed.few c.read_votes-votes.ensures (rw c.base_of-base.ensures.0 at c.feed_ways.ensures) c.feed_head.ensures
