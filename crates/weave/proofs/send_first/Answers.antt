-- `send_first` puts out what the table weaves of a few digits of each: zeros before them are no columns.
use Prim.Native.Nat.{ℕ, ◌^◌, ◌<◌}
use native.Mathlib.Omega.{arith}
use lib.Pow.{pow_mono}
use Rattle.weave.proofs.Weaving.{weave-fits}
use Rattle.weave.proofs.send_first.Goals as goal

pub weave-requires : goal.weave-requires
weave-requires c =
    let pre = c.requires in
    let small : (v : ℕ) → v < 2 ^ c.args.n → v < 256 = λ v h. omega (arith, pow_mono {i = c.args.n} {j = 8} pre.4) in
    (pre.0, small _ pre.5, small _ pre.6, small _ pre.7, small _ pre.8)

pub put-requires : goal.put-requires
put-requires c =
    let pre = c.requires in
    (pre.1, omega (arith, pre.4), rw c.weave.ensures.0 (weave-fits c.args.n _ _ _ _ pre.4 pre.5 pre.6 pre.7 pre.8), pre.2)

pub returns : goal.returns
returns c =
    rw (← c.weave.ensures.0) c.put.ensures
