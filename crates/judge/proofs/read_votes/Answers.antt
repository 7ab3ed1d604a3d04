-- `read_votes`: the notes of the line, read into the places behind the first.
use mathlib.Core.Path.{◌≡◌}
use Prim.Native.Nat.{◌+◌, ◌-◌, ◌/◌}
use native.Mathlib.Omega.{arith}
use lib.ListN.{length, take, drop}
use Rattle.judge.proofs.Quartered.{lent_length, votes-read}
use Rattle.judge.proofs.read_votes.Goals as goal

pub slice_bounds-votes-end : goal.slice_bounds-votes-end
slice_bounds-votes-end c = omega (arith, c.requires.1.few, c.no_votes-votes.ensures)

pub read_frames-requires : goal.read_frames-requires
read_frames-requires c =
    let a = c.args in
    let F = length a.line.now / a.row.bytes in
    let v = c.no_votes-votes.result in
    let p = c.requires in
    let lent = lent_length 1 (F + 1) v (omega (arith, p.1.few, c.no_votes-votes.ensures)) in
    let many : length (take (F + 1 - 1) (drop 1 v)) ≡ F = omega (arith, lent) in
    (p.0, rw many p.1.frames, omega (arith, many, p.1.few))

pub returns : goal.returns
returns c =
    let made = c.no_votes-votes in
    votes-read c.args.row c.args.line.now made.result c.read_frames.new.notes made.ensures c.requires.1.few c.read_frames.ensures.1
