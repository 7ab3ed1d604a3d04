-- `change` meets its contract: the byte is the digits above, the old digit and the digits below, so that the old digit can be
-- taken out, and what is left with the new one in is a byte.
use native.Mathlib.Omega.{arith}
use mathlib.Core.Path.{◌≡◌}
use Prim.Native.Nat.{ℕ, ◌+◌, ◌-◌, ◌*◌, ◌/◌, ◌%◌, ◌^◌, ◌≤◌, ◌<◌}
use native.Mathlib.Nat.{add-mul}
use lib.Pow.{split, shl_exact}
use Rattle.engine.specs.Change.{changed}
use Rattle.engine.proofs.Bits.{changed-fits}
use Rattle.engine.proofs.packed.change.Goals as goal

module _ (b k d : ℕ) (h : k < 8) (bin : d < 2) where
  -- a digit shifted to its place loses nothing
  shifted : (e : ℕ) → e < 2 → e * 2 ^ k % 256 ≡ e * 2 ^ k
  shifted e he = shl_exact {a = e} 1 k 8 he (omega arith)

  -- the byte: the digits above, the old digit, the digits below
  parts : b ≡ b / 2 ^ k / 2 * 2 * 2 ^ k + b / 2 ^ k % 2 * 2 ^ k + b % 2 ^ k
  parts =
      let q : b / 2 ^ k / 2 * 2 + b / 2 ^ k % 2 ≡ b / 2 ^ k = omega arith in
      omega (arith, split b k, rw q at (add-mul (b / 2 ^ k / 2 * 2) (b / 2 ^ k % 2) (2 ^ k)))

  out : b / 2 ^ k % 2 * 2 ^ k % 256 ≤ b
  out = rw (shifted (b / 2 ^ k % 2) (omega arith)) (omega (arith, parts))

  written : b - b / 2 ^ k % 2 * 2 ^ k % 256 + d * 2 ^ k % 256 ≡ changed b k d
  unfolding changed
  written =
      rw (shifted (b / 2 ^ k % 2) (omega arith), shifted d bin, add-mul (b / 2 ^ k / 2 * 2) d (2 ^ k)) (omega (arith, parts))

pub overflow_sub-result : goal.overflow_sub-result
overflow_sub-result c = omega (arith, out c.args.b c.args.k c.args.d c.requires.0 c.requires.1)

pub returns : goal.returns
returns c = written c.args.b c.args.k c.args.d c.requires.0 c.requires.1

pub overflow_add-result : goal.overflow_add-result
overflow_add-result c =
    omega (arith, returns c, changed-fits c.args.b c.args.k c.args.d c.requires.1 (omega arith) c.requires.0)
