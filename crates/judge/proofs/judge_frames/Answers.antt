-- `judge_frames`: the votes are read, and the room is lent.
use native.Mathlib.Omega.{arith}
use Rattle.judge.proofs.Quartered.{lent_length}
use Rattle.judge.proofs.Accepted.{accepting}
use Rattle.judge.proofs.judge_frames.Goals as goal

pub read_votes-votes-requires : goal.read_votes-votes-requires
read_votes-votes-requires c = (c.requires.shared, c.requires.framed)

pub room_of-size-requires : goal.room_of-size-requires
room_of-size-requires c = (c.requires.shared, c.requires.framed.few)

pub slice_bounds-room-end : goal.slice_bounds-room-end
slice_bounds-room-end c = omega (arith, c.room_of-size.ensures.0, c.empty_room-room.ensures)

pub judge_by-requires : goal.judge_by-requires
judge_by-requires c =
    let p = c.requires in
    let size = c.room_of-size.result in
    let e = c.room_of-size.ensures in
    let lent = lent_length 0 size c.empty_room-room.result (omega (arith, e.0, c.empty_room-room.ensures)) in
    (accepting p size _ (omega (arith, lent)) e.1 e.2, c.read_votes-votes.ensures, p.earlier_fits)
