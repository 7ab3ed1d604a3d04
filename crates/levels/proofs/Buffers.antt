-- The four quarters of a buffer: where each lies, the part that is lent for it, and its length.
use mathlib.Core.Path.{◌≡◌}
use mathlib.Core.List.{List, ◌++◌}
use Prim.Native.Nat.{ℕ, ◌+◌, ◌*◌, ◌-◌, ◌/◌, ◌≤◌, ◌<◌}
use native.Mathlib.Omega.{arith}
use native.Mathlib.Nat.{add-mul, mul-le-mul_right, add-sub_cancel_left}
use lib.ListN.{length, take, drop, length-take, length-drop}
use Rattle.digits.proofs.Lists.{part_at}
use Rattle.levels.specs.Sizes.{quarter_of}

-- quarter j lies in the buffer, and is the part that is lent
pub quarter-in : (j n : ℕ) → j < 4 → j * (n / 4) + n / 4 ≤ n
quarter-in j n h = omega (arith, mul-le-mul_right {m = j + 1} {n = 4} (n / 4) (omega arith), add-mul j 1 (n / 4))

pub quarter-part : (buffer : List ℕ) (j : ℕ) → take (j * (length buffer / 4) + length buffer / 4 - j * (length buffer / 4)) (drop (j * (length buffer / 4)) buffer) ≡ quarter_of buffer j
quarter-part buffer j = rw (add-sub_cancel_left (j * (length buffer / 4)) (length buffer / 4))

pub quarter-length : (buffer : List ℕ) (j : ℕ) → j < 4 → length (quarter_of buffer j) ≡ length buffer / 4
quarter-length buffer j h = simp (length-take, length-drop) (omega (arith, quarter-in j (length buffer) h))

-- and the quarters of a list of four parts of one length
pub quarter-at : (all front mid back : List ℕ) (j q : ℕ) → all ≡ front ++ (mid ++ back) → length all ≡ 4 * q → length front ≡ j * q → length mid ≡ q
    → quarter_of all j ≡ mid
quarter-at all front mid back j q parts l f e =
    let whole : length all / 4 ≡ q = omega arith in
    rw (whole, parts) (part_at front mid back (j * q) q f e)
