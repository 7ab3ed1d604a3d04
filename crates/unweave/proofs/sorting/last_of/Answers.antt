-- `last_of` cuts off the digits before the last n of the row, and with them the rows before it.
use mathlib.Core.Path.{◌≡◌, sym, ap, ◌∙◌}
use Prim.Native.Nat.{ℕ, ◌+◌, ◌*◌, ◌-◌, ◌/◌, ◌%◌, ◌^◌}
use native.Mathlib.Omega.{arith}
use lib.Bits.{and_mask, mask_lt}
use Rattle.std.proofs.Math.Pow.{mod-mod-pow}
use Rattle.unweave.proofs.sorting.last_of.Goals as goal

pub returns : goal.returns
returns c =
    let n = c.args.n in
    let rows = c.args.rows / 2 ^ (16 * (3 - c.args.j)) in
    let sixteen : 16 - n + n ≡ 16 = omega arith in
    let cut : rows % 2 ^ 16 % 2 ^ n ≡ rows % 2 ^ n = ap (λ (k : ℕ). rows % 2 ^ k % 2 ^ n) (sym sixteen) ∙ mod-mod-pow rows (16 - n) n in
    rw c.ones.ensures (and_mask rows n ∙ sym cut, mask_lt rows n)
