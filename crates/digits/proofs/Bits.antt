-- Laws of one byte: its digits by their place, the byte with one digit changed, and a byte from eight digits.
-- The change of a digit is one law for every place, by the powers of two of lib.Pow; nothing here goes over lists of bytes.
use mathlib.Core.Path.{◌≡◌, refl, sym, ap, ◌∙◌}
use mathlib.Core.Logic.{◌≢◌}
use mathlib.Core.List.{List}
use Prim.Native.Nat.{ℕ, zero, suc, ◌+◌, ◌-◌, ◌*◌, ◌/◌, ◌%◌, ◌^◌, ◌≤◌, ◌<◌}
use native.Mathlib.Nat.{div-one, mod-lt, mod-eq_of_lt}
use native.Mathlib.Numerals.{one-add}
use native.Mathlib.Omega.{arith}
use native.Mathlib.Decide.{dec_lt}
use lib.ListN.{length, get_or, take}
use lib.Seq.{ext_get_or, get_or-take, length-take-le}
use lib.Arith.{digits_lt, digits_div, digits_mod}
use lib.Pow.{pow_pos, pow-add, shr_lt, shr-shr, high, low, field, mod-mod-pow, mod-pow-add}
use Rattle.digits.specs.Digits.{eight, byte_of, Binary, with_digit}

-- what holds of each number below eight
cases8 : (P : ℕ → Type 0) → (P 0 × P 1 × P 2 × P 3 × P 4 × P 5 × P 6 × P 7) → (k : ℕ) → k < 8 → P k
cases8 P p zero h = p.0
cases8 P p (suc zero) h = p.1
cases8 P p (suc (suc zero)) h = p.2
cases8 P p (suc (suc (suc zero))) h = p.3
cases8 P p (suc (suc (suc (suc zero)))) h = p.4
cases8 P p (suc (suc (suc (suc (suc zero))))) h = p.5
cases8 P p (suc (suc (suc (suc (suc (suc zero)))))) h = p.6
cases8 P p (suc (suc (suc (suc (suc (suc (suc zero))))))) h = p.7
cases8 P p (suc (suc (suc (suc (suc (suc (suc (suc k)))))))) h = absurd (omega arith)

-- digit i of a byte is the one worth 2 to the 7 - i
pub eight-at : (b i : ℕ) → i < 8 → get_or (eight b) i 0 ≡ b / 2 ^ (7 - i) % 2
eight-at b =
    cases8
    (λ (i : ℕ). get_or (eight b) i 0 ≡ b / 2 ^ (7 - i) % 2)
    (refl, refl, refl, refl, refl, refl, refl, rw div-one)

-- numbers that agree below 2 to the k, or above it, have the same digits there
low_digit : (m n j k : ℕ) → j < k → m % 2 ^ k ≡ n % 2 ^ k → m / 2 ^ j % 2 ≡ n / 2 ^ j % 2
low_digit m n j k h e = near m ∙ ap (λ (x : ℕ). x % 2 ^ (1 + j) / 2 ^ j) e ∙ sym (near n)
  where
    whole : k - (1 + j) + (1 + j) ≡ k
    whole = omega arith

    near : (x : ℕ) → x / 2 ^ j % 2 ≡ x % 2 ^ k % 2 ^ (1 + j) / 2 ^ j
    near x = rw (rw whole at (mod-mod-pow x (k - (1 + j)) (1 + j)), field x 1 j)

high_digit : (m n j k : ℕ) → k < j → m / 2 ^ k / 2 ≡ n / 2 ^ k / 2 → m / 2 ^ j ≡ n / 2 ^ j
high_digit m n j k h e = far m ∙ ap (λ (x : ℕ). x / 2 ^ (j - (k + 1))) e ∙ sym (far n)
  where
    whole : k + 1 + (j - (k + 1)) ≡ j
    whole = omega arith

    far : (x : ℕ) → x / 2 ^ j ≡ x / 2 ^ k / 2 / 2 ^ (j - (k + 1))
    far x = rw (shr-shr x k 1, shr-shr x (k + 1) (j - (k + 1)), whole)

module _ (b k d : ℕ) (bin : d < 2) where
  rest : b % 2 ^ k < 2 ^ k
  rest = mod-lt b (pow_pos k)

  top : with_digit b k d / 2 ^ k ≡ b / 2 ^ k / 2 * 2 + d
  unfolding with_digit
  top = high (b / 2 ^ k / 2 * 2 + d) k rest

  -- the digit that was written
  pub digit-same : with_digit b k d / 2 ^ k % 2 ≡ d
  digit-same = rw top (digits_mod (b / 2 ^ k / 2) bin)

  -- every other digit
  pub digit-other : (j : ℕ) → j ≢ k → with_digit b k d / 2 ^ j % 2 ≡ b / 2 ^ j % 2
  unfolding with_digit
  digit-other j n =
      elim (dec_lt j k) [
        | yes h ↦ low_digit (with_digit b k d) b j k h (low (b / 2 ^ k / 2 * 2 + d) k rest)
        | no h ↦ ap (λ (x : ℕ). x % 2) (high_digit (with_digit b k d) b j k (omega arith) (rw top (digits_div (b / 2 ^ k / 2) bin)))
      ]

  -- a byte stays a byte
  pub with-digit-fits : b < 256 → k < 8 → with_digit b k d < 256
  unfolding with_digit
  with-digit-fits byte small = rw whole at (digits_lt (digits_lt half bin) rest)
    where
      eight-digits : 7 - k + 1 + k ≡ 8
      eight-digits = omega arith

      half : b / 2 ^ k / 2 < 2 ^ (7 - k)
      half = shr_lt (7 - k) 1 (shr_lt (7 - k + 1) k (rw eight-digits byte))

      whole : 2 ^ (7 - k) * 2 * 2 ^ k ≡ 256
      whole = rw (← pow-add 2 (7 - k) 1, ← pow-add 2 (7 - k + 1) k, eight-digits)

-- numbers with the same k low digits have the same remainder
same_digits : (m n k : ℕ) → ((j : ℕ) → j < k → m / 2 ^ j % 2 ≡ n / 2 ^ j % 2) → m % 2 ^ k ≡ n % 2 ^ k
same_digits m n zero e = omega arith
same_digits m n (suc k) e = rw (step m, step n, e k (omega arith), same_digits m n k (λ j h. e j (omega arith)))
  where
    step : (x : ℕ) → x % 2 ^ suc k ≡ x / 2 ^ k % 2 * 2 ^ k + x % 2 ^ k
    step x = rw one-add at (mod-pow-add x 1 k)

module _ (ds : List ℕ) (bin : Binary ds) where
  pub byte_fits : byte_of ds < 256
  byte_fits = omega (arith, bin 0, bin 1, bin 2, bin 3, bin 4, bin 5, bin 6, bin 7)

  byte_at : (i : ℕ) → i < 8 → byte_of ds / 2 ^ (7 - i) % 2 ≡ get_or ds i 0
  byte_at =
      cases8
      (λ (i : ℕ). byte_of ds / 2 ^ (7 - i) % 2 ≡ get_or ds i 0)
      (omega (arith, bin 0, bin 1, bin 2, bin 3, bin 4, bin 5, bin 6, bin 7))

  -- the digits of the byte that eight digits make are these
  pub eight-byte : 8 ≤ length ds → eight (byte_of ds) ≡ take 8 ds
  eight-byte l =
      ext_get_or 0 (eight (byte_of ds)) (take 8 ds)
      (sym (length-take-le 8 ds l))
      (λ i h. eight-at (byte_of ds) i h ∙ byte_at i h ∙ sym (get_or-take 8 ds i 0 h))

  -- the byte that the digits of a byte make is that byte
  pub byte-is : (b : ℕ) → b < 256 → ((i : ℕ) → i < 8 → get_or ds i 0 ≡ b / 2 ^ (7 - i) % 2) → byte_of ds ≡ b
  byte-is b byte e = sym (mod-eq_of_lt byte_fits) ∙ same_digits (byte_of ds) b 8 same ∙ mod-eq_of_lt byte
    where
      same : (j : ℕ) → j < 8 → byte_of ds / 2 ^ j % 2 ≡ b / 2 ^ j % 2
      same j h =
          let back : 7 - (7 - j) ≡ j = omega arith in
          rw back at (byte_at (7 - j) (omega arith) ∙ e (7 - j) (omega arith))
