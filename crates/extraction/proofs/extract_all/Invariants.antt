-- `extract_all` leaves the four quarters and answers the four counts: the frames hand out what `Handing` says, then the invariant is `Ended`, of
-- the quarters ended so far.
use Rattle.extraction.proofs.Quarters.{Ended}
use Rattle.extraction.proofs.extract_all.Given as goal

abbrev pub invariant-loop-j : goal.invariant-loop-j
invariant-loop-j l = Ended l.q l.w l.initial.buffer l.j l.counts l.buffer
