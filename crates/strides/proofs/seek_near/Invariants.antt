-- `seek_near`: no window so far was the word (proofs/Passing.antt).
use Prim.Native.Nat.{◌+◌, ◌^◌, ◌<◌}
use Rattle.digits.specs.Digits.{digits_of}
use Rattle.strides.specs.Strides.{Passed}
use Rattle.strides.proofs.seek_near.Given as goal

abbrev pub invariant-loop-at : goal.invariant-loop-at
invariant-loop-at l = (l.w < 2 ^ l.len) × Passed l.len l.word (digits_of l.piece) (l.last + 1) l.first l.window l.at l.w
