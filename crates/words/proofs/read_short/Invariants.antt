-- `read_short` reads digit after digit. The invariant: the window so far, and that it has no more digits.
use mathlib.Core.Path.{◌≡◌}
use Prim.Native.Nat.{◌<◌, ◌^◌}
use Rattle.digits.specs.Digits.{digits_of, window_at}
use Rattle.words.proofs.read_short.Given as goal

abbrev pub invariant-loop-k : goal.invariant-loop-k
invariant-loop-k l = (l.r ≡ window_at (digits_of l.s) l.p l.k) × (l.r < 2 ^ l.k)
