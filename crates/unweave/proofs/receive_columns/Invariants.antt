-- `receive_columns` hands out up to 32 columns a turn: the invariant is `Receiving`, of the columns handed out so far.
use Prim.Native.Nat.{◌-◌}
use Rattle.digits.specs.Digits.{digits_of}
use Rattle.unweave.proofs.Runs.{Receiving}
use Rattle.unweave.proofs.receive_columns.Given as goal

abbrev pub invariant-loop-k : goal.invariant-loop-k
invariant-loop-k l = Receiving l.q (digits_of l.line) l.p l.columns l.initial.buffer l.initial.w l.buffer l.w l.k

abbrev pub decreases-loop-k : goal.decreases-loop-k
decreases-loop-k l = l.columns - l.k
