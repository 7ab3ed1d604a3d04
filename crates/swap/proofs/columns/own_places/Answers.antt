-- `own_places` is `own_places`: nothing is shifted out.
use Prim.Native.Nat.{◌-◌}
use native.Mathlib.Omega.{arith}
use lib.Pow.{shl_exact}
use Rattle.swap.proofs.columns.own_places.Goals as goal

pub returns : goal.returns
returns c = shl_exact {a = 286331153} 29 (3 - c.args.j) 64 (omega arith) (omega arith)
