-- `read_frames` leaves the notes of the frames and answers the counts of errors: the invariant is `Reading`, of the frames read so far.
use lib.ListN.{length}
use Rattle.reading.proofs.Reading.{Reading}
use Rattle.reading.proofs.read_frames.Given as goal

abbrev pub invariant-loop-f : goal.invariant-loop-f
invariant-loop-f l = Reading l.row l.line (length l.initial.notes) l.f l.notes l.alignment l.dissent
