-- Groups of four digits, added side by side: no group carries into the next as long as none comes over fifteen, and all groups of a number are added up
-- by pairs and a remainder.
use mathlib.Core.Path.{◌≡◌, refl, sym, ◌∙◌, ap}
use Prim.Native.Nat.{ℕ, zero, suc, ◌+◌, ◌*◌, ◌/◌, ◌%◌, ◌^◌, ◌≤◌, ◌<◌}
use native.Mathlib.Omega.{arith}
use native.Mathlib.Nat.{pow-suc, mod-lt}
use lib.Bits.{bit_and, and_block, and_mask, and_zero_r}
use lib.Pow.{split}
use Rattle.masks.specs.Masks.{every_to, EVERY, nibbles, Within}

-- the lowest digit of each of k groups
unfoldable pub lowest : ℕ → ℕ → ℕ
lowest zero y = 0
lowest (suc k) y = lowest k (y / 16) * 16 + y % 2

and-every : (k y : ℕ) → bit_and y (every_to k) ≡ lowest k y
unfolding every_to lowest
and-every zero y = and_zero_r y
and-every (suc k) y =
    let parts : y / 16 * 16 + y % 16 ≡ y = split y 4 in
    let block = and_block 4 (y / 16) (every_to k) (y % 16) 1 (mod-lt y (omega arith)) (omega arith) in
    let one : bit_and (y % 16) 1 ≡ y % 2 = and_mask (y % 16) 1 ∙ (let e : y % 16 % 2 ≡ y % 2 = omega arith in e) in
    ap (λ (n : ℕ). bit_and n (every_to k * 16 + 1)) (sym parts) ∙ block ∙ rw (and-every k (y / 16), one) refl

pub and-ones : (y : ℕ) → bit_and y EVERY ≡ lowest 14 y
unfolding every_to
and-ones y = and-every 14 y

-- ---- within fifteen

pub within_more : (k m n y : ℕ) → m ≤ n → Within k m y → Within k n y
unfolding Within
within_more zero m n y h w = w
within_more (suc k) m n y h w = (omega (arith, w.0), within_more k m n (y / 16) h w.1)

pub within-lowest : (k y : ℕ) → Within k 1 (lowest k y)
unfolding Within lowest
within-lowest zero y = refl
within-lowest (suc k) y =
    let last : (lowest k (y / 16) * 16 + y % 2) % 16 ≤ 1 = omega arith in
    let rest : (lowest k (y / 16) * 16 + y % 2) / 16 ≡ lowest k (y / 16) = omega arith in
    (last, rw rest (within-lowest k (y / 16)))

pub within-zero : (k : ℕ) → Within k 0 0
unfolding Within
within-zero zero = refl
within-zero (suc k) = (omega arith, within-zero k)

pub within-lt : (k y : ℕ) → Within k 15 y → y < 16 ^ k
unfolding Within
within-lt zero y w = rw w (omega arith)
within-lt (suc k) y w = rw (pow-suc 16 k) (omega (arith, within-lt k (y / 16) w.1))

-- ---- added side by side

pub nibbles-zero : (k : ℕ) → nibbles k 0 ≡ 0
unfolding nibbles
nibbles-zero zero = refl
nibbles-zero (suc k) = let e : 0 / 16 ≡ 0 = omega arith in rw (e, nibbles-zero k) refl

pub record Side (k m a b : ℕ) : Type 0 where
  pub within : Within k m (a + b)
  pub sum : nibbles k (a + b) ≡ nibbles k a + nibbles k b

pub side_by_side : (k m n a b : ℕ) → m + n ≤ 15 → Within k m a → Within k n b → Side k (m + n) a b
unfolding Within nibbles
side_by_side zero m n a b h v w = record { within = rw (v, w) refl; sum = refl }
side_by_side (suc k) m n a b h v w =
    let low : (a + b) % 16 ≡ a % 16 + b % 16 = omega (arith, v.0, w.0) in
    let high : (a + b) / 16 ≡ a / 16 + b / 16 = omega (arith, v.0, w.0) in
    let s = side_by_side k m n (a / 16) (b / 16) h v.1 w.1 in
    record { within = (omega (arith, low, v.0, w.0), rw high s.within); sum = rw (high, low, s.sum) (omega arith) }

-- ---- added up

-- the lower group of each of k pairs
unfoldable pub lowers : ℕ → ℕ → ℕ
lowers zero y = 0
lowers (suc k) y = lowers k (y / 256) * 256 + y % 16

unfoldable pub lowers_to : ℕ → ℕ
lowers_to zero = 0
lowers_to (suc k) = lowers_to k * 256 + 15

and-lowers : (k y : ℕ) → bit_and y (lowers_to k) ≡ lowers k y
unfolding lowers_to lowers
and-lowers zero y = and_zero_r y
and-lowers (suc k) y =
    let parts : y / 256 * 256 + y % 256 ≡ y = split y 8 in
    let block = and_block 8 (y / 256) (lowers_to k) (y % 256) 15 (mod-lt y (omega arith)) (omega arith) in
    let low : bit_and (y % 256) 15 ≡ y % 16 = and_mask (y % 256) 4 ∙ (let e : y % 256 % 16 ≡ y % 16 = omega arith in e) in
    ap (λ (n : ℕ). bit_and n (lowers_to k * 256 + 15)) (sym parts) ∙ block ∙ rw (and-lowers k (y / 256), low) refl

-- so many groups are two to a pair
abbrev twice : ℕ → ℕ
twice zero = 0
twice (suc k) = suc (suc (twice k))

pairs-left : (k y : ℕ) → (lowers k y + lowers k (y / 16)) % 255 ≡ nibbles (twice k) y % 255
unfolding lowers nibbles
pairs-left zero y = refl
pairs-left (suc k) y =
    let a : y / 16 / 256 ≡ y / 256 / 16 = omega arith in
    let b : y / 16 / 16 ≡ y / 256 = omega arith in
    rw (a, b) (omega (arith, pairs-left k (y / 256)))

nibbles-most : (k y : ℕ) → nibbles k y ≤ 15 * k
unfolding nibbles
nibbles-most zero y = omega arith
nibbles-most (suc k) y = omega (arith, nibbles-most k (y / 16))

pub group-total : (y : ℕ) → (bit_and y 4238682002231055 + bit_and (y / 16) 4238682002231055) % 255 ≡ nibbles 14 y
unfolding lowers_to
group-total y =
    let few : nibbles 14 y ≤ 210 = nibbles-most 14 y in
    rw (and-lowers 7 y, and-lowers 7 (y / 16)) (omega (arith, pairs-left 7 y))

pub total-most : (y : ℕ) → nibbles 14 y ≤ 210
total-most y = nibbles-most 14 y
