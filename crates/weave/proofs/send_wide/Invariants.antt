-- `send_wide`: the columns so far, a multiple of 32.
use mathlib.Core.Path.{◌≡◌}
use Prim.Native.Nat.{◌-◌, ◌%◌}
use Rattle.digits.specs.Digits.{digits_of}
use Rattle.weave.proofs.Weaving.{Weaving}
use Rattle.weave.proofs.send_wide.Given as goal

abbrev pub invariant-loop-k : goal.invariant-loop-k
invariant-loop-k l = (l.k % 32 ≡ 0) × Weaving (digits_of l.a) (digits_of l.b) (digits_of l.c) (digits_of l.d) l.i l.columns l.initial.line l.initial.w l.line l.w l.k

abbrev pub decreases-loop-k : goal.decreases-loop-k
decreases-loop-k l = l.columns - l.k
