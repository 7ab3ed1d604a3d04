-- `repair_frames`: frame after frame, each with the note that is read from it before anything of it is written.
use Rattle.repair.proofs.Frames.{Framing}
use Rattle.repair.proofs.repair_frames.Given as goal

abbrev pub invariant-loop-f : goal.invariant-loop-f
invariant-loop-f l = Framing l.row l.earlier l.national l.initial.line l.f l.preceding l.line l.sums
