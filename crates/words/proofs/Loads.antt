-- Laws of the reader: four bytes and eight bytes joined into a number, and the digits asked for out of it.
use mathlib.Core.Path.{◌≡◌, refl, sym, ap, ◌∙◌}
use mathlib.Core.List.{List}
use Prim.Native.Nat.{ℕ, ◌+◌, ◌-◌, ◌*◌, ◌/◌, ◌%◌, ◌^◌, ◌≤◌, ◌<◌}
use native.Mathlib.Omega.{arith}
use native.Mathlib.Nat.{mul-mod_left}
use lib.ListN.{get_or}
use lib.Pow.{shl_exact, shl-shr, mod-pow-add}
use lib.Bits.{bit_or, bit_and, or_shifted, and_mask}
use Rattle.digits.specs.Digits.{digits_of, Bytes, window_at}
use Rattle.digits.proofs.Laws.{digits-binary}
use Rattle.digits.proofs.Windows.{window-lt, window-cat, window-first, window-last, byte-window, next-byte}

-- n digits out of 64 that begin at a byte: shifted down, and cut off above
pub window-part : (bs : List ℕ) (at p n : ℕ) → 8 * at ≤ p → p + n ≤ 8 * at + 64
    → bit_and (window_at (digits_of bs) (8 * at) 64 / 2 ^ (64 - (p - 8 * at + n))) (2 ^ n - 1) ≡ window_at (digits_of bs) p n
window-part bs at p n lo hi =
    let ds = digits_of bs in
    let k = p - 8 * at in
    let rest = 64 - (k + n) in
    let whole : 64 ≡ k + n + rest = omega arith in
    let first : window_at ds (8 * at) 64 / 2 ^ rest ≡ window_at ds (8 * at) (k + n) =
    ap (λ (m : ℕ). window_at ds (8 * at) m / 2 ^ rest) whole ∙ window-first ds (digits-binary bs) (8 * at) (k + n) rest in
    let here : 8 * at + k ≡ p = omega arith in
    rw (and_mask (window_at ds (8 * at) 64 / 2 ^ rest) n, first, window-last ds (digits-binary bs) (8 * at) k n, here)

-- four bytes, joined one after the other
pub load-four : (bs : List ℕ) (at r₀ r₁ r₂ r₃ : ℕ) → Bytes bs → r₀ ≡ get_or bs at 0 → r₁ ≡ r₀ * 256 + get_or bs (at + 1) 0
    → r₂ ≡ r₁ * 256 + get_or bs (at + 2) 0 → r₃ ≡ r₂ * 256 + get_or bs (at + 3) 0
    → (r₃ ≡ window_at (digits_of bs) (8 * at) 32) × (r₃ < 2 ^ 32)
load-four bs at r₀ r₁ r₂ r₃ h e₀ e₁ e₂ e₃ = (whole, rw whole (window-lt (digits_of bs) (digits-binary bs) (8 * at) 32))
  where
    one : r₀ ≡ window_at (digits_of bs) (8 * at) 8
    one = e₀ ∙ sym (byte-window bs at (h at))

    two : r₁ ≡ window_at (digits_of bs) (8 * at) 16
    two = e₁ ∙ rw one (next-byte bs at 1 (at + 1) refl (h (at + 1)))

    three : r₂ ≡ window_at (digits_of bs) (8 * at) 24
    three = e₂ ∙ rw two (next-byte bs at 2 (at + 2) refl (h (at + 2)))

    whole : r₃ ≡ window_at (digits_of bs) (8 * at) 32
    whole = e₃ ∙ rw three (next-byte bs at 3 (at + 3) refl (h (at + 3)))

-- two times four bytes
pub load-eight : (bs : List ℕ) (at r r' : ℕ) → r ≡ window_at (digits_of bs) (8 * at) 32 → r' ≡ window_at (digits_of bs) (8 * (at + 4)) 32
    → r < 2 ^ 32 → r' < 2 ^ 32 → bit_or (r * 2 ^ 32 % 2 ^ 64) r' ≡ window_at (digits_of bs) (8 * at) 64
load-eight bs at r r' e e' h h' =
    let there : 8 * (at + 4) ≡ 8 * at + 32 = omega arith in
    rw (shl_exact {a = r} 32 32 64 h (omega arith), or_shifted r 32 r' h', e, e', there)
    (sym (window-cat (digits_of bs) (digits-binary bs) (8 * at) 32 32))

-- 64 digits from the middle of a byte on: eight bytes shifted up, and the first digits of a ninth
pub load-nine : (bs : List ℕ) (p word : ℕ) → Bytes bs → word ≡ window_at (digits_of bs) (8 * (p / 8)) 64 → 0 < p % 8
    → bit_or (word * 2 ^ (p % 8) % 2 ^ 64) (get_or bs (p / 8 + 8) 0 / 2 ^ (8 - p % 8)) ≡ window_at (digits_of bs) p 64
load-nine bs p word h e some =
    let ds = digits_of bs in
    let bin = digits-binary bs in
    let at = p / 8 in
    let k = p % 8 in
    let m = 64 - k in
    let whole : 64 ≡ m + k = omega arith in
    let other : 64 ≡ k + m = omega arith in
    let here : 8 * at + k ≡ p = omega arith in
    let ninth : 8 * (at + 8) ≡ p + m = omega arith in
    let byte : 8 ≡ k + (8 - k) = omega arith in
    let high : word * 2 ^ k % 2 ^ 64 ≡ window_at ds p m * 2 ^ k =
    rw e (ap (λ (n : ℕ). window_at ds (8 * at) 64 * 2 ^ k % 2 ^ n) whole
    ∙ shifted (window_at ds (8 * at) 64) m k
    ∙ ap (λ (n : ℕ). window_at ds (8 * at) n % 2 ^ m * 2 ^ k) other
    ∙ rw (window-last ds bin (8 * at) k m, here)) in
    let low : get_or bs (at + 8) 0 / 2 ^ (8 - k) ≡ window_at ds (p + m) k =
    ap (λ (n : ℕ). n / 2 ^ (8 - k)) (sym (byte-window bs (at + 8) (h (at + 8))))
    ∙ ap (λ (n : ℕ). window_at ds (8 * (at + 8)) n / 2 ^ (8 - k)) byte
    ∙ window-first ds bin (8 * (at + 8)) k (8 - k)
    ∙ ap (λ (n : ℕ). window_at ds n k) ninth in
    rw (high, low, or_shifted (window_at ds p m) k (window_at ds (p + m) k) (window-lt ds bin (p + m) k))
    (sym (window-cat ds bin p m k) ∙ ap (window_at ds p) (sym whole))
  where
    shifted : (w m k : ℕ) → w * 2 ^ k % 2 ^ (m + k) ≡ w % 2 ^ m * 2 ^ k
    shifted w m k = mod-pow-add (w * 2 ^ k) m k ∙ rw (shl-shr w k, mul-mod_left w (2 ^ k)) (omega arith)

-- up to 64 digits, the last 32 of them apart
pub load-wide : (bs : List ℕ) (p m n r r' : ℕ) → m ≤ 32 → m + 32 ≡ n → r ≡ window_at (digits_of bs) p m → r' ≡ window_at (digits_of bs) (p + m) 32 → r < 2 ^ m
    → r' < 2 ^ 32 → bit_or (r * 2 ^ 32 % 2 ^ 64) r' ≡ window_at (digits_of bs) p n
load-wide bs p m n r r' few all e e' h h' =
    rw (shl_exact {a = r} m 32 64 h (omega arith), or_shifted r 32 r' h', e, e', ← all) (sym (window-cat (digits_of bs) (digits-binary bs) p m 32))
