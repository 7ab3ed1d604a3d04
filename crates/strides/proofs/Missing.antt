-- Laws of the places at which a word does not end, as digits of one number: one digit of the word more, and what ones say.
use mathlib.Core.Path.{◌≡◌, refl, sym, ap, ◌∙◌}
use mathlib.Core.Bool.{Bool, cond, true, false}
use Prim.Native.Nat.{ℕ, suc, ◌+◌, ◌-◌, ◌*◌, ◌/◌, ◌%◌, ◌^◌, ◌≤◌, ◌<◌, max}
use native.Mathlib.Omega.{arith}
use native.Mathlib.Decide.{ℕ_discrete}
use native.Mathlib.Nat.{pow-suc, mod-one, mod-lt, div-eq_of_lt, mod-eq_of_lt}
use borrow.Author.Tests.{eq-eqb, ne_eqb}
use lib.Dec.{eqb}
use lib.Bits.{differ, bit_or, bit_xor, or_shr, or_mod, xor_shr, xor_mod}
use lib.Pow.{pow_pos, mod-pow-add, shr-shr, high, ones_split, ones_lt}
use Rattle.digits.proofs.Laws.{by-digit}
use Rattle.digits.proofs.Written.{low_digit}
use Rattle.strides.specs.Strides.{miss_at, Misses, Clear}

-- ---- digits of |, of ^ with ones, of ones

pub or-digit : (a b i : ℕ) → bit_or a b / 2 ^ i % 2 ≡ max (a / 2 ^ i % 2) (b / 2 ^ i % 2)
or-digit a b i = rw (or_shr a b i) (or_mod (a / 2 ^ i) (b / 2 ^ i) 1 ∙ one (a / 2 ^ i % 2) (b / 2 ^ i % 2) (omega arith) (omega arith))
  where
    one : (x y : ℕ) → x < 2 → y < 2 → bit_or x y ≡ max x y
    one x y hx hy =
        by-digit (λ (x : ℕ). bit_or x y ≡ max x y) (by-digit (λ (y : ℕ). bit_or 0 y ≡ max 0 y) refl refl y hy)
        (by-digit (λ (y : ℕ). bit_or 1 y ≡ max 1 y) refl refl y hy) x hx

-- a digit of so many ones
pub ones-digit : (m i : ℕ) → (2 ^ (suc m + i) - 1) / 2 ^ i % 2 ≡ 1
ones-digit m i = rw (ones_split (suc m) i, high (2 ^ suc m - 1) i (ones_lt i), pow-suc 2 m) (omega (arith, pow_pos m))

-- a digit spread over n digits
spread-digit : (d n m : ℕ) → d < 2 → m < n → d * (2 ^ n - 1) / 2 ^ m % 2 ≡ d
spread-digit d n m hd hm = by-digit (λ (d : ℕ). d * (2 ^ n - 1) / 2 ^ m % 2 ≡ d) none all d hd
  where
    none : 0 * (2 ^ n - 1) / 2 ^ m % 2 ≡ 0
    none =
        let e : 0 * (2 ^ n - 1) ≡ 0 = omega arith in
        rw (e, div-eq_of_lt (pow_pos m))

    all : 1 * (2 ^ n - 1) / 2 ^ m % 2 ≡ 1
    all =
        let e : 1 * (2 ^ n - 1) ≡ 2 ^ n - 1 = omega arith in
        let up : n ≡ suc (n - suc m) + m = omega arith in
        rw e (ap (λ (k : ℕ). (2 ^ k - 1) / 2 ^ m % 2) up ∙ ones-digit (n - suc m) m)

-- the digits that are another one than d
differ-digit : (a d n m : ℕ) → d < 2 → m < n → bit_xor a (d * (2 ^ n - 1)) / 2 ^ m % 2 ≡ differ (a / 2 ^ m % 2) d
differ-digit a d n m hd hm =
    rw (xor_shr a (d * (2 ^ n - 1)) m)
    (xor_mod (a / 2 ^ m) (d * (2 ^ n - 1) / 2 ^ m) 1 ∙ ap (bit_xor (a / 2 ^ m % 2)) (spread-digit d n m hd hm) ∙ one (a / 2 ^ m % 2) (omega arith))
  where
    one : (x : ℕ) → x < 2 → bit_xor x d ≡ differ x d
    one x hx =
        by-digit (λ (x : ℕ). bit_xor x d ≡ differ x d) (by-digit (λ (d : ℕ). bit_xor 0 d ≡ differ 0 d) refl refl d hd)
        (by-digit (λ (d : ℕ). bit_xor 1 d ≡ differ 1 d) refl refl d hd) x hx

-- ---- one digit of the word more

miss-one : (n a b c d : ℕ) → a < 2 → c < 2 → b < n → d < n → max (cond (eqb b d) 0 1) (differ a c) ≡ cond (eqb (a * n + b) (c * n + d)) 0 1
miss-one n a b c d ha hc hb hd =
    elim (ℕ_discrete b d) [
      | yes e ↦ rw (eq-eqb b d e) (same e)
      | no q ↦ rw (ne_eqb b d q, ne_eqb (a * n + b) (c * n + d) (other q)) (one (differ a c) (few a c ha hc))
    ]
  where
    few : (a c : ℕ) → a < 2 → c < 2 → differ a c < 2
    few a c ha hc =
        by-digit (λ (a : ℕ). differ a c < 2) (by-digit (λ (c : ℕ). differ 0 c < 2) (omega arith) (omega arith) c hc)
        (by-digit (λ (c : ℕ). differ 1 c < 2) (omega arith) (omega arith) c hc) a ha

    one : (x : ℕ) → x < 2 → max 1 x ≡ 1
    one x h = omega arith

    other : (b ≡ d → ⊥) → a * n + b ≡ c * n + d → ⊥
    other q e =
        by-digit (λ (a : ℕ). a * n + b ≡ c * n + d → ⊥)
        (by-digit (λ (c : ℕ). 0 * n + b ≡ c * n + d → ⊥) (λ e. q (omega arith)) (λ e. omega arith) c hc)
        (by-digit (λ (c : ℕ). 1 * n + b ≡ c * n + d → ⊥) (λ e. omega arith) (λ e. q (omega arith)) c hc) a ha e

    same : b ≡ d → max 0 (differ a c) ≡ cond (eqb (a * n + b) (c * n + d)) 0 1
    same e =
        by-digit (λ (a : ℕ). max 0 (differ a c) ≡ cond (eqb (a * n + b) (c * n + d)) 0 1)
        (by-digit (λ (c : ℕ). max 0 (differ 0 c) ≡ cond (eqb (0 * n + b) (c * n + d)) 0 1) (rw (eq-eqb (0 * n + b) (0 * n + d) (omega arith)))
        (rw (ne_eqb (0 * n + b) (1 * n + d) (λ q. omega arith))) c hc)
        (by-digit (λ (c : ℕ). max 0 (differ 1 c) ≡ cond (eqb (1 * n + b) (c * n + d)) 0 1) (rw (ne_eqb (1 * n + b) (0 * n + d) (λ q. omega arith)))
        (rw (eq-eqb (1 * n + b) (1 * n + d) (omega arith))) c hc) a ha

miss-nothing : (word v i : ℕ) → 0 / 2 ^ i % 2 ≡ miss_at 0 word v i
unfolding miss_at
miss-nothing word v i = rw (mod-one (v / 2 ^ i), mod-one word, div-eq_of_lt (pow_pos i))

pub miss-none : (word v : ℕ) → Misses 0 word v 0
miss-none word v = record { tells = λ i h. miss-nothing word v i }

-- digit i of v, k digits further up, against digit k of the word
pub miss_more : (word v k i : ℕ) → miss_at (k + 1) word v i ≡ max (miss_at k word v i) (differ (v / 2 ^ (k + i) % 2) (word / 2 ^ k % 2))
unfolding miss_at
miss_more word v k i =
    let e : k + 1 ≡ 1 + k = omega arith in
    let f : k + i ≡ i + k = omega arith in
    rw (e, f, mod-pow-add (v / 2 ^ i) 1 k, mod-pow-add word 1 k, ← shr-shr v i k)
    (sym (miss-one (2 ^ k) (v / 2 ^ i / 2 ^ k % 2) (v / 2 ^ i % 2 ^ k) (word / 2 ^ k % 2) (word % 2 ^ k) (omega arith) (omega arith)
    (mod-lt (v / 2 ^ i) (pow_pos k)) (mod-lt word (pow_pos k))))

-- a turn: of what is or-ed, digit i is 1 where digit k + i of v is not the word's digit k
pub miss-turn : (word v k miss r : ℕ) → k < 12 → Misses k word v miss → r ≡ bit_or miss (bit_xor v (word / 2 ^ k % 2 * (2 ^ 64 - 1)) / 2 ^ k)
    → Misses (k + 1) word v r
miss-turn word v k miss r hk h er = record { tells = one }
  where
    one : (i : ℕ) → i + (k + 1) ≤ 64 → r / 2 ^ i % 2 ≡ miss_at (k + 1) word v i
    one i hi =
        let d = word / 2 ^ k % 2 in
        let x = bit_xor v (d * (2 ^ 64 - 1)) in
        rw (er, or-digit miss (x / 2 ^ k) i, h.tells i (omega arith), miss_more word v k i, shr-shr x k i)
        (ap (max (miss_at k word v i)) (differ-digit v d 64 (k + i) (omega arith) (omega arith)))

-- a number of digits that is another one's
pub miss-as : (word v k l r : ℕ) → Misses k word v r → l ≡ k → Misses l word v r
miss-as word v k l r h e = rw e h

-- so many ones: no window is the word
pub clear-is : (places len word v r : ℕ) → word < 2 ^ len → places + len ≤ 64 → Misses len word v r → r % 2 ^ places ≡ 2 ^ places - 1 → Clear places len word v
unfolding miss_at
clear-is places len word v r fits room h e i hi =
    let up : places ≡ suc (places - suc i) + i = omega arith in
    let one : ◌≡◌ {A = ℕ} ((2 ^ places - 1) / 2 ^ i % 2) 1 = ap (λ (n : ℕ). (2 ^ n - 1) / 2 ^ i % 2) up ∙ ones-digit (places - suc i) i in
    let miss : ◌≡◌ {A = ℕ} (r / 2 ^ i % 2) 1 = sym (low_digit places i r hi) ∙ ap (λ (n : ℕ). n / 2 ^ i % 2) e ∙ one in
    let whole : word % 2 ^ len ≡ word = mod-eq_of_lt fits in
    told (eqb (v / 2 ^ i % 2 ^ len) word) (rw whole at (sym miss ∙ h.tells i (omega arith)))
  where
    told : (t : Bool) → ◌≡◌ {A = ℕ} 1 (cond t 0 1) → t ≡ false
    told true q = absurd (one-zero q)
      where
        one-zero : ◌≡◌ {A = ℕ} 1 0 → ⊥
        one-zero q = omega arith
    told false q = refl
