-- `exchanged` keeps the other tributaries' digits, and shifts out none of the new ones.
use mathlib.Core.Path.{ap₂}
use Prim.Native.Nat.{ℕ, ◌-◌}
use native.Mathlib.Omega.{arith}
use lib.Bits.{bit_and, bit_or}
use lib.Pow.{pow_mono, shl_exact}
use Rattle.swap.proofs.columns.exchanged.Goals as goal

pub overflow_sub-result : goal.overflow_sub-result
overflow_sub-result c = omega (arith, c.own_places.ensures, pow_mono {i = 3 - c.args.j} {j = 3} (omega arith))

pub returns : goal.returns
returns c =
    ap₂ (λ (own new : ℕ). bit_or (bit_and c.args.columns (4294967295 - own)) new) c.own_places.ensures
    (shl_exact {a = c.args.spread} 29 (3 - c.args.j) 64 (omega (arith, c.requires.2)) (omega arith))
