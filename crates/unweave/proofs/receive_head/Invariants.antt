-- `receive_head` hands out the columns behind the control digits where the set is the last, and nothing where it is another: the invariant is
-- `Heading`, of the columns handed out so far.
use Prim.Native.Nat.{◌-◌}
use Rattle.digits.specs.Digits.{digits_of}
use Rattle.levels.specs.Order.{acts_by}
use Rattle.unweave.proofs.Runs.{Heading}
use Rattle.unweave.proofs.receive_head.Given as goal

abbrev pub invariant-loop-r : goal.invariant-loop-r
invariant-loop-r l = Heading l.row (digits_of l.line) l.p l.s (acts_by l.row l.preceding l.note) l.q l.initial.buffer l.initial.w l.buffer l.w l.r

abbrev pub decreases-loop-r : goal.decreases-loop-r
decreases-loop-r l = l.row.last - l.r
