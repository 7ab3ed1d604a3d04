-- Laws of windows, so many digits of a list as a number: cut in two, one digit or one byte more, the window of whole bytes.
use mathlib.Core.Path.{◌≡◌, sym, ◌∙◌}
use mathlib.Core.List.{List}
use Prim.Native.Nat.{ℕ, zero, suc, ◌+◌, ◌-◌, ◌*◌, ◌/◌, ◌%◌, ◌^◌, ◌≤◌, ◌<◌}
use native.Mathlib.Omega.{arith}
use native.Mathlib.Nat.{pow-suc, add-zero, add-suc, div-eq_of_lt, div-one}
use native.Mathlib.Numerals.{add-one}
use lib.ListN.{get_or}
use lib.Pow.{high, low, split, shr-shr}
use Rattle.digits.specs.Digits.{digits_of, Binary, window_at}
use Rattle.digits.proofs.Laws.{digit_at, digits-binary}

-- a window of k digits is below 2 to the k
pub window_more : (k w d : ℕ) → w < 2 ^ k → d < 2 → w * 2 + d < 2 ^ (k + 1)
window_more k w d hw hd = rw (add-one k, pow-suc 2 k) (omega arith)

module _ (ds : List ℕ) (bin : Binary ds) where
  pub window-lt : (p k : ℕ) → window_at ds p k < 2 ^ k
  unfolding window_at
  window-lt p zero = omega arith
  window-lt p (suc k) = rw (pow-suc 2 k) (omega (arith, window-lt p k, bin (p + k)))

  -- the first i digits, then j more
  pub window-cat : (p i j : ℕ) → window_at ds p (i + j) ≡ window_at ds p i * 2 ^ j + window_at ds (p + i) j
  unfolding window_at
  window-cat p i zero = rw (add-zero i) (omega arith)
  window-cat p i (suc j) =
      let e : p + (i + j) ≡ p + i + j = omega arith in
      rw (add-suc i j, window-cat p i j, e, pow-suc 2 j) (omega arith)

  pub window-first : (p i j : ℕ) → window_at ds p (i + j) / 2 ^ j ≡ window_at ds p i
  window-first p i j = rw (window-cat p i j) (high (window_at ds p i) j (window-lt (p + i) j))

  pub window-last : (p i j : ℕ) → window_at ds p (i + j) % 2 ^ j ≡ window_at ds (p + i) j
  window-last p i j = rw (window-cat p i j) (low (window_at ds p i) j (window-lt (p + i) j))

-- the first k digits of a byte
byte-first : (bs : List ℕ) (at : ℕ) → get_or bs at 0 < 256 → (k : ℕ) → k ≤ 8 → window_at (digits_of bs) (8 * at) k ≡ get_or bs at 0 / 2 ^ (8 - k)
unfolding window_at
byte-first bs at h zero l = sym (div-eq_of_lt h)
byte-first bs at h (suc k) l =
    let b = get_or bs at 0 in
    let m = 8 - suc k in
    let e : 8 - k ≡ m + 1 = omega arith in
    let i : (8 * at + k) / 8 ≡ at = omega arith in
    let j : 7 - (8 * at + k) % 8 ≡ m = omega arith in
    rw (byte-first bs at h k (omega arith), digit_at bs (8 * at + k), i, j, e, ← shr-shr b m 1) (split (b / 2 ^ m) 1)

pub byte-window : (bs : List ℕ) (at : ℕ) → get_or bs at 0 < 256 → window_at (digits_of bs) (8 * at) 8 ≡ get_or bs at 0
byte-window bs at h = byte-first bs at h 8 (omega arith) ∙ div-one (get_or bs at 0)

-- a byte more
pub next-byte : (bs : List ℕ) (at k p : ℕ) → p ≡ at + k → get_or bs p 0 < 256
    → window_at (digits_of bs) (8 * at) (8 * k) * 256 + get_or bs p 0 ≡ window_at (digits_of bs) (8 * at) (8 * k + 8)
next-byte bs at k p e h =
    let there : 8 * at + 8 * k ≡ 8 * p = omega arith in
    rw (window-cat (digits_of bs) (digits-binary bs) (8 * at) (8 * k) 8, there, byte-window bs p h)
