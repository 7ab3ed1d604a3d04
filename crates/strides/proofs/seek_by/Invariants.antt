-- `seek_by`: the word was met at none of the digits so far (proofs/Passing.antt).
use mathlib.Core.Path.{◌≡◌}
use Prim.Native.Nat.{◌-◌, ◌%◌, ◌≤◌, ◌<◌}
use Rattle.digits.specs.Digits.{digits_of}
use Rattle.strides.specs.Strides.{Unmet}
use Rattle.strides.proofs.seek_by.Given as goal

abbrev pub invariant-loop-at : goal.invariant-loop-at
invariant-loop-at l = (l.from ≤ l.at) × (l.at < l.end) × (l.at % 8 ≡ 0) × Unmet l.len l.word (digits_of l.piece) l.from l.at

abbrev pub decreases-loop-at : goal.decreases-loop-at
decreases-loop-at l = l.end - l.at
