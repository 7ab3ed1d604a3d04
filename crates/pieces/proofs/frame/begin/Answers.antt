-- `begin` writes the digits of the window shifted to the front of two bytes.
use Prim.Native.Nat.{◌*◌, ◌^◌, ◌<◌}
use native.Mathlib.Omega.{arith}
use native.Mathlib.Nat.{mod-eq_of_lt}
use Rattle.pieces.proofs.Holding.{head-fits, begun-is}
use Rattle.pieces.proofs.frame.begin.Goals as goal

pub overflow_cast-f : goal.overflow_cast-f
overflow_cast-f c = let a = c.args in omega (arith, head-fits a.row a.window a.shift c.requires.2 c.requires.1)

pub returns : goal.returns
returns c =
    let a = c.args in
    let h : a.window * 2 ^ a.shift < 2 ^ 64 = omega (arith, head-fits a.row a.window a.shift c.requires.2 c.requires.1) in
    rw (mod-eq_of_lt h) (begun-is a.row a.window a.shift c.requires.2 c.requires.1)
