-- `group_ones` counts the four groups of a frame. The invariant: the ones among the columns read so far.
use mathlib.Core.Path.{◌≡◌}
use Rattle.digits.specs.Digits.{digits_of}
use Rattle.reading.specs.Lanes.{group_ones}
use Rattle.reading.proofs.group_ones.Given as goal

abbrev pub invariant-loop-k : goal.invariant-loop-k
invariant-loop-k l = l.ones ≡ group_ones l.row (digits_of l.line) l.f l.k
