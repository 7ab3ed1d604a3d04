-- `mask_of`: the shift loses nothing, because L is at most 12.
use mathlib.Core.Path.{◌≡◌, ◌∙◌}
use native.Mathlib.Omega.{arith}
use native.Mathlib.Nat.{one-mul}
use Prim.Native.Nat.{ℕ, ◌*◌, ◌%◌, ◌^◌, ◌≤◌}
use lib.Pow.{pow_pos, shl_exact}
use Rattle.modes.proofs.mask_of.Goals as goal

-- 1 << l
worth : (l : ℕ) → l ≤ 12 → (1 * 2 ^ l) % 2 ^ 64 ≡ 2 ^ l
worth l h = shl_exact {a = 1} 1 l 64 (omega arith) (omega arith) ∙ one-mul (2 ^ l)

pub overflow_sub-result : goal.overflow_sub-result
overflow_sub-result c = let l = c.args.row.len in omega (arith, worth l (omega arith), pow_pos l)

pub returns : goal.returns
returns c = rw (worth c.args.row.len (omega arith))
