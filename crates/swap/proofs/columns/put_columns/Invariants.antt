-- `put_columns`: the columns of the eights so far have the tributary's digits, at the end no more than there are.
use Prim.Native.Nat.{◌*◌, min}
use Rattle.digits.specs.Digits.{digits_of}
use Rattle.swap.specs.Filling.{Ran}
use Rattle.swap.proofs.columns.put_columns.Given as goal

abbrev pub invariant-loop-eight : goal.invariant-loop-eight
invariant-loop-eight l = Ran l.initial.line (2 * l.at) (min (8 * l.eight) l.columns) (digits_of l.buffer) l.i l.j l.line
