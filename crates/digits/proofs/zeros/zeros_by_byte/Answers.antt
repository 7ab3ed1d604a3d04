-- `zeros_by_byte` meets its contract: a byte has eight digits, and those that are not ones are zeros.
use mathlib.Core.Path.{refl}
use native.Mathlib.Omega.{arith}
use Prim.Native.Nat.{◌+◌, ◌-◌, ◌<◌}
use lib.ListN.{drop, length-take}
use lib.Seq.{get_or-take, get_or-drop}
use Rattle.digits.proofs.ZeroLaws.{ones_none, ones-more}
use Rattle.digits.proofs.zeros.zeros_by_byte.Goals as goal

pub loop-byte-init : goal.loop-byte-init
loop-byte-init c = ones_none c.args.s.now c.args.from

pub loop-byte-preserved : goal.loop-byte-preserved
loop-byte-preserved c =
    let l = c.loop-byte in
    let a = c.args in
    let s = a.s.now in
    let i = l.byte-index in
    let n = a.to - a.from in
    let inside : i < n = omega (arith, length-take n (drop a.from s)) in
    rw (get_or-take n (drop a.from s) i 0 inside, get_or-drop a.from s i 0)
    (ones-more s a.from i l.ones _ (omega arith) (omega (arith, c.type_inv.s (a.from + i))) refl l.invariant)
