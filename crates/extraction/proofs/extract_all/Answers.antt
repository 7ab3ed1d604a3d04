-- `extract_all` leaves the four quarters and answers the four counts: the frames hand out what `Handing` says, then the invariant is `Ended`, of
-- the quarters ended so far.
use mathlib.Core.Path.{◌≡◌}
use native.Mathlib.Omega.{arith}
use Rattle.extraction.proofs.Handing.{come-few}
use Rattle.extraction.proofs.Quarters.{lent-size, ended-more, ended-all}
use Rattle.extraction.proofs.extract_all.Goals as goal

pub finish_quarter-requires : goal.finish_quarter-requires
finish_quarter-requires c =
    let handed = c.extract_frames-w.ensures in
    rw (c.writer_of.ensures, lent-size c.loop-j.invariant (omega (arith, handed.size)) c.loop-j-test.true)
    (handed.within c.loop-j.j c.loop-j-test.true, come-few handed c.loop-j.j c.loop-j-test.true (omega arith))

pub loop-j-preserved : goal.loop-j-preserved
loop-j-preserved c =
    let ended = c.finish_quarter in
    ended-more c.loop-j.invariant (omega (arith, c.extract_frames-w.ensures.size)) c.loop-j-test.true ended.result ended.new.quarter (rw c.writer_of.ensures at ended.ensures)

pub returns : goal.returns
returns c =
    let all : c.loop-j.j ≡ 4 = omega arith in
    ended-all c.extract_frames-w.ensures (rw all at c.loop-j.invariant)
