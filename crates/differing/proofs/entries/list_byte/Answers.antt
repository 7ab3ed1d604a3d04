-- `list_byte`: eight places, or a byte that is equal.
use native.Mathlib.Omega.{arith}
use mathlib.Core.Path.{◌≡◌}
use Prim.Native.Nat.{◌+◌, ◌*◌}
use Rattle.differing.proofs.Walking.{list_over, equal-one}
use Rattle.differing.proofs.entries.list_byte.Goals as goal

pub returns-then-one-i : goal.returns-then-one-i
returns-then-one-i c = list_over _ _ _ _ _ _ _ (omega arith) c.requires.2 (equal-one c.args.one.now c.args.other.now _ c.if-one-i.true)

pub list_digit-all-requires : goal.list_digit-all-requires
list_digit-all-requires c = (c.requires.0, omega arith, c.loop-p.invariant)

pub returns : goal.returns
returns c =
    let e : c.loop-p.p ≡ 8 * (c.args.i + 1) = omega arith in
    rw (← e) c.loop-p.invariant
