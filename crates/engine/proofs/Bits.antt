-- One byte with one digit changed: the digit that was written, every other digit, and that a byte stays a byte.
use mathlib.Core.Path.{◌≡◌, sym, ap, ◌∙◌}
use mathlib.Core.Logic.{◌≢◌}
use Prim.Native.Nat.{ℕ, ◌+◌, ◌-◌, ◌*◌, ◌/◌, ◌%◌, ◌^◌, ◌<◌}
use native.Mathlib.Nat.{mod-lt}
use native.Mathlib.Omega.{arith}
use native.Mathlib.Decide.{dec_lt}
use lib.Arith.{digits_lt, digits_div, digits_mod}
use lib.Pow.{pow_pos, pow-add, shr_lt, shr-shr, high, low, field, mod-mod-pow}
use Rattle.engine.specs.Change.{changed}

-- numbers that agree below 2 to the k, or above it, have the same digits there
low_digit : (m n j k : ℕ) → j < k → m % 2 ^ k ≡ n % 2 ^ k → m / 2 ^ j % 2 ≡ n / 2 ^ j % 2
low_digit m n j k h e = near m ∙ ap (λ (x : ℕ). x % 2 ^ (1 + j) / 2 ^ j) e ∙ sym (near n)
  where
    whole : k - (1 + j) + (1 + j) ≡ k
    whole = omega arith

    near : (x : ℕ) → x / 2 ^ j % 2 ≡ x % 2 ^ k % 2 ^ (1 + j) / 2 ^ j
    near x = rw (rw whole at (mod-mod-pow x (k - (1 + j)) (1 + j)), field x 1 j)

high_digit : (m n j k : ℕ) → k < j → m / 2 ^ k / 2 ≡ n / 2 ^ k / 2 → m / 2 ^ j ≡ n / 2 ^ j
high_digit m n j k h e = far m ∙ ap (λ (x : ℕ). x / 2 ^ (j - (k + 1))) e ∙ sym (far n)
  where
    whole : k + 1 + (j - (k + 1)) ≡ j
    whole = omega arith

    far : (x : ℕ) → x / 2 ^ j ≡ x / 2 ^ k / 2 / 2 ^ (j - (k + 1))
    far x = rw (shr-shr x k 1, shr-shr x (k + 1) (j - (k + 1)), whole)

module _ (b k d : ℕ) (bin : d < 2) where
  rest : b % 2 ^ k < 2 ^ k
  rest = mod-lt b (pow_pos k)

  top : changed b k d / 2 ^ k ≡ b / 2 ^ k / 2 * 2 + d
  unfolding changed
  top = high (b / 2 ^ k / 2 * 2 + d) k rest

  -- the digit that was written
  pub digit-same : changed b k d / 2 ^ k % 2 ≡ d
  digit-same = rw top (digits_mod (b / 2 ^ k / 2) bin)

  -- every other digit
  pub digit-other : (j : ℕ) → j ≢ k → changed b k d / 2 ^ j % 2 ≡ b / 2 ^ j % 2
  unfolding changed
  digit-other j n =
      elim (dec_lt j k) [
        | yes h ↦ low_digit (changed b k d) b j k h (low (b / 2 ^ k / 2 * 2 + d) k rest)
        | no h ↦ ap (λ (x : ℕ). x % 2) (high_digit (changed b k d) b j k (omega arith) (rw top (digits_div (b / 2 ^ k / 2) bin)))
      ]

  -- a byte stays a byte
  pub changed-fits : b < 256 → k < 8 → changed b k d < 256
  unfolding changed
  changed-fits byte small = rw whole at (digits_lt (digits_lt half bin) rest)
    where
      eight-digits : 7 - k + 1 + k ≡ 8
      eight-digits = omega arith

      half : b / 2 ^ k / 2 < 2 ^ (7 - k)
      half = shr_lt (7 - k) 1 (shr_lt (7 - k + 1) k (rw eight-digits byte))

      whole : 2 ^ (7 - k) * 2 * 2 ^ k ≡ 256
      whole = rw (← pow-add 2 (7 - k) 1, ← pow-add 2 (7 - k + 1) k, eight-digits)
