-- `read`: the notes of the frames and the counts of errors, frame after frame, by the laws of Noting.
use lib.ListN.{length}
use Rattle.plain.proofs.Noting.{Noting}
use Rattle.plain.proofs.reading.read.Given as goal

abbrev pub invariant-loop-f : goal.invariant-loop-f
invariant-loop-f l = Noting l.row l.line (length l.initial.notes) l.f l.notes l.alignment l.dissent
