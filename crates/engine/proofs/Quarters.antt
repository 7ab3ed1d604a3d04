-- Where the quarters of a buffer lie.
use Prim.Native.Nat.{ℕ, ◌+◌, ◌*◌, ◌/◌, ◌≤◌, ◌<◌}
use native.Mathlib.Omega.{arith}
use native.Mathlib.Nat.{add-mul, mul-le-mul_right}

pub quarter-in : (j n : ℕ) → j < 4 → j * (n / 4) + n / 4 ≤ n
quarter-in j n h = omega (arith, mul-le-mul_right {m = j + 1} {n = 4} (n / 4) (omega arith), add-mul j 1 (n / 4))
