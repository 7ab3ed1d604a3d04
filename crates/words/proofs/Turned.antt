-- Four exchanges turn a matrix of digits over. Digit i of a word after an exchange is a digit of the word before it, by the mask alone; so that four
-- of them turn it over is one computation, over the 64 places.
use mathlib.Core.Path.{◌≡◌, refl, sym, ap, ◌∙◌}
use mathlib.Core.Bool.{cond}
use mathlib.Core.List.{List}
use Prim.Native.Nat.{ℕ, suc, ◌+◌, ◌-◌, ◌*◌, ◌/◌, ◌%◌, ◌^◌, ◌≤◌, ◌<◌}
use native.Mathlib.Omega.{arith}
use native.Mathlib.Decide.{ℕ_discrete, dec_lt}
use native.Mathlib.Nat.{zero-add, mul_assoc}
use lib.Dec.{eqb, ltb}
use lib.ListN.{get_or}
use lib.Bits.{bit_and, bit_xor, xor_shr, xor_mod, and_shr, and_mod, and_zero_r, xor_zero_r, shifted_even}
use lib.Pow.{pow-add, shr-shr, shl-shr}
use borrow.Author.Tests.{lt-ltb, le-ltb, eq-eqb, ne_eqb}
use Rattle.digits.specs.Digits.{tab}
use Rattle.digits.proofs.Laws.{by-digit, tab-at}
use Rattle.digits.proofs.Written.{low_digit}
use Rattle.words.specs.Turning.{differing, exchanged, TurnedOver}

-- a digit of a difference, and of what two numbers share
xor-at : (a b i : ℕ) → bit_xor a b / 2 ^ i % 2 ≡ bit_xor (a / 2 ^ i % 2) (b / 2 ^ i % 2)
xor-at a b i = rw (xor_shr a b i) (xor_mod (a / 2 ^ i) (b / 2 ^ i) 1)

and_at : (a b i : ℕ) → bit_and a b / 2 ^ i % 2 ≡ bit_and (a / 2 ^ i % 2) (b / 2 ^ i % 2)
and_at a b i = rw (and_shr a b i) (and_mod (a / 2 ^ i) (b / 2 ^ i) 1)

-- and of a number shifted up in a word
up-low : (d by i : ℕ) → i < 64 → i < by → d * 2 ^ by % 2 ^ 64 / 2 ^ i % 2 ≡ 0
up-low d by i h l =
    let m = by - suc i in
    let e : by ≡ suc m + i = omega arith in
    let there : d * 2 ^ by ≡ d * 2 ^ suc m * 2 ^ i =
    ap (λ (k : ℕ). d * 2 ^ k) e ∙ ap (λ (k : ℕ). d * k) (pow-add 2 (suc m) i) ∙ sym (mul_assoc d (2 ^ suc m) (2 ^ i)) in
    rw (low_digit 64 i (d * 2 ^ by) h, there, shl-shr (d * 2 ^ suc m) i) (shifted_even d m)

up-high : (d by i : ℕ) → i < 64 → by ≤ i → d * 2 ^ by % 2 ^ 64 / 2 ^ i % 2 ≡ d / 2 ^ (i - by) % 2
up-high d by i h l =
    let e : i ≡ by + (i - by) = omega arith in
    low_digit 64 i (d * 2 ^ by) h
    ∙ ap (λ (k : ℕ). d * 2 ^ by / 2 ^ k % 2) e
    ∙ rw (← shr-shr (d * 2 ^ by) by (i - by), shl-shr d by)

-- the digit of a pair that is exchanged, or of one that is not: b with the one above it, a, or with the one below it, c
with-above : (a b : ℕ) → a < 2 → b < 2 → bit_xor b (bit_and (bit_xor a b) 1) ≡ a
with-above a b ha hb =
    by-digit (λ (x : ℕ). (y : ℕ) → y < 2 → bit_xor y (bit_and (bit_xor x y) 1) ≡ x)
    (by-digit (λ (y : ℕ). bit_xor y (bit_and (bit_xor 0 y) 1) ≡ 0) refl refl)
    (by-digit (λ (y : ℕ). bit_xor y (bit_and (bit_xor 1 y) 1) ≡ 1) refl refl)
    a ha b hb

with-below : (b c : ℕ) → b < 2 → c < 2 → bit_xor b (bit_and (bit_xor b c) 1) ≡ c
with-below b c hb hc =
    by-digit (λ (x : ℕ). (y : ℕ) → y < 2 → bit_xor x (bit_and (bit_xor x y) 1) ≡ y)
    (by-digit (λ (y : ℕ). bit_xor 0 (bit_and (bit_xor 0 y) 1) ≡ y) refl refl)
    (by-digit (λ (y : ℕ). bit_xor 1 (bit_and (bit_xor 1 y) 1) ≡ y) refl refl)
    b hb c hc

-- from where digit i comes; and whether it would be exchanged both ways, which no mask here asks for
abbrev source : ℕ → ℕ → ℕ → ℕ
source by mask i =
    cond (eqb (mask / 2 ^ i % 2) 1) (by + i) (cond (ltb i by) i (cond (eqb (mask / 2 ^ (i - by) % 2) 1) (i - by) i))

abbrev twice : ℕ → ℕ → ℕ → ℕ
twice by mask i = cond (ltb i by) 0 (mask / 2 ^ i % 2 * (mask / 2 ^ (i - by) % 2))

module _ (x by mask i : ℕ) (inside : i < 64) where
  abbrev at : ℕ → ℕ
  at k = x / 2 ^ k % 2

  differing-at : (k : ℕ) → differing x by mask / 2 ^ k % 2 ≡ bit_and (bit_xor (at (by + k)) (at k)) (mask / 2 ^ k % 2)
  differing-at k = and_at (bit_xor (x / 2 ^ by) x) mask k ∙ rw (xor-at (x / 2 ^ by) x k, shr-shr x by k)

  low-exchanged : i < by → exchanged x by mask / 2 ^ i % 2 ≡ bit_xor (at i) (bit_and (bit_xor (at (by + i)) (at i)) (mask / 2 ^ i % 2))
  low-exchanged l =
      xor-at (bit_xor x (differing x by mask)) (differing x by mask * 2 ^ by % 2 ^ 64) i
      ∙ rw (xor-at x (differing x by mask) i, differing-at i, up-low (differing x by mask) by i inside l) (xor_zero_r _)

  high-exchanged : by ≤ i
      → exchanged x by mask / 2 ^ i % 2
      ≡ bit_xor (bit_xor (at i) (bit_and (bit_xor (at (by + i)) (at i)) (mask / 2 ^ i % 2))) (bit_and (bit_xor (at i) (at (i - by))) (mask / 2 ^ (i - by) % 2))
  high-exchanged l =
      let e : by + (i - by) ≡ i = omega arith in
      xor-at (bit_xor x (differing x by mask)) (differing x by mask * 2 ^ by % 2 ^ 64) i
      ∙ rw (xor-at x (differing x by mask) i, differing-at i, up-high (differing x by mask) by i inside l, differing-at (i - by), e)

  above : exchanged x by mask / 2 ^ i % 2 ≡ at (by + i) → mask / 2 ^ i % 2 ≡ 1 → exchanged x by mask / 2 ^ i % 2 ≡ at (source by mask i)
  above e one = rw (eq-eqb (mask / 2 ^ i % 2) 1 one) e

  -- digit i comes from there
  exchanged-at : twice by mask i ≡ 0 → exchanged x by mask / 2 ^ i % 2 ≡ at (source by mask i)
  exchanged-at apart =
      elim (dec_lt i by) [
        | yes l ↦ elim (ℕ_discrete (mask / 2 ^ i % 2) 1) [
          | yes one ↦ above (low-exchanged l ∙ rw one (with-above (at (by + i)) (at i) (omega arith) (omega arith))) one
          | no other ↦
              let none : mask / 2 ^ i % 2 ≡ 0 = omega arith in
              rw (lt-ltb i by l, ne_eqb (mask / 2 ^ i % 2) 1 other) (low-exchanged l ∙ rw none (stays (at i) (bit_xor (at (by + i)) (at i))))
        ]
        | no l ↦ high (omega arith)
      ]
    where
      stays : (b c : ℕ) → bit_xor b (bit_and c 0) ≡ b
      stays b c = rw (and_zero_r c) (xor_zero_r b)

      high : by ≤ i → exchanged x by mask / 2 ^ i % 2 ≡ at (source by mask i)
      high l =
          let not-both : mask / 2 ^ i % 2 * (mask / 2 ^ (i - by) % 2) ≡ 0 = rw (le-ltb i by l) at apart in
          elim (ℕ_discrete (mask / 2 ^ i % 2) 1) [
            | yes one ↦
                let none : mask / 2 ^ (i - by) % 2 ≡ 0 = omega (arith, rw one at not-both) in
                above (high-exchanged l ∙ rw (one, none) (stays _ (bit_xor (at i) (at (i - by))) ∙ with-above (at (by + i)) (at i) (omega arith) (omega arith))) one
            | no other ↦
                let none : mask / 2 ^ i % 2 ≡ 0 = omega arith in
                let same : exchanged x by mask / 2 ^ i % 2 ≡ bit_xor (at i) (bit_and (bit_xor (at i) (at (i - by))) (mask / 2 ^ (i - by) % 2)) =
                high-exchanged l ∙ rw none (ap (λ (k : ℕ). bit_xor k (bit_and (bit_xor (at i) (at (i - by))) (mask / 2 ^ (i - by) % 2))) (stays (at i) (bit_xor (at (by + i)) (at i)))) in
                elim (ℕ_discrete (mask / 2 ^ (i - by) % 2) 1) [
                  | yes one ↦
                      rw (le-ltb i by l, ne_eqb (mask / 2 ^ i % 2) 1 other, eq-eqb (mask / 2 ^ (i - by) % 2) 1 one)
                      (same ∙ rw one (with-below (at i) (at (i - by)) (omega arith) (omega arith)))
                  | no neither ↦
                      let zero' : mask / 2 ^ (i - by) % 2 ≡ 0 = omega arith in
                      rw (le-ltb i by l, ne_eqb (mask / 2 ^ i % 2) 1 other, ne_eqb (mask / 2 ^ (i - by) % 2) 1 neither)
                      (same ∙ rw zero' (stays (at i) (bit_xor (at i) (at (i - by)))))
                ]
          ]

-- what holds of the first 64 numbers by computation
at_each : (f g : ℕ → ℕ) → tab 64 0 f ≡ tab 64 0 g → (i : ℕ) → i < 64 → f i ≡ g i
at_each f g same i h =
    let e : 0 + i ≡ i = zero-add i in
    ap f (sym e) ∙ sym (tab-at 64 0 f i h) ∙ ap (λ (l : List ℕ). get_or l i 0) same ∙ tab-at 64 0 g i h ∙ ap g e

-- a mask that exchanges no digit both ways, and none with a digit outside the word
pub record Fair (by mask : ℕ) : Type 0 where
  pub once : tab 64 0 (twice by mask) ≡ tab 64 0 (λ (i : ℕ). 0)
  pub within : tab 64 0 (λ (i : ℕ). source by mask i / 64) ≡ tab 64 0 (λ (i : ℕ). 0)

module _ {by mask : ℕ} (fair : Fair by mask) (i : ℕ) (h : i < 64) where
  comes-from : (x : ℕ) → exchanged x by mask / 2 ^ i % 2 ≡ x / 2 ^ source by mask i % 2
  comes-from x = exchanged-at x by mask i h (at_each (twice by mask) (λ (k : ℕ). 0) fair.once i h)

  comes-within : source by mask i < 64
  comes-within = omega (arith, at_each (λ (k : ℕ). source by mask k / 64) (λ (k : ℕ). 0) fair.within i h)

-- four exchanges
module _ {b₁ m₁ b₂ m₂ b₃ m₃ b₄ m₄ : ℕ} (one : Fair b₁ m₁) (two : Fair b₂ m₂) (three : Fair b₃ m₃) (four : Fair b₄ m₄) (x y z t r : ℕ)
    (first : y ≡ exchanged x b₁ m₁) (second : z ≡ exchanged y b₂ m₂) (third : t ≡ exchanged z b₃ m₃) (fourth : r ≡ exchanged t b₄ m₄) where
  all-four : (i : ℕ) → i < 64 → r / 2 ^ i % 2 ≡ x / 2 ^ source b₁ m₁ (source b₂ m₂ (source b₃ m₃ (source b₄ m₄ i))) % 2
  all-four i h =
      let i₃ = source b₄ m₄ i in
      let i₂ = source b₃ m₃ i₃ in
      let i₁ = source b₂ m₂ i₂ in
      let h₃ : i₃ < 64 = comes-within four i h in
      let h₂ : i₂ < 64 = comes-within three i₃ h₃ in
      let h₁ : i₁ < 64 = comes-within two i₂ h₂ in
      ap (λ (k : ℕ). k / 2 ^ i % 2) fourth
      ∙ comes-from four i h t
      ∙ ap (λ (k : ℕ). k / 2 ^ i₃ % 2) third
      ∙ comes-from three i₃ h₃ z
      ∙ ap (λ (k : ℕ). k / 2 ^ i₂ % 2) second
      ∙ comes-from two i₂ h₂ y
      ∙ ap (λ (k : ℕ). k / 2 ^ i₁ % 2) first
      ∙ comes-from one i₁ h₁ x

-- the masks of the program: in bytes, and of pairs, fours and eights of digits
abbrev bytes : ℕ
bytes = 723401728380766730

abbrev pairs : ℕ
pairs = 57421771435671756

abbrev fours : ℕ
fours = 264913582878960

abbrev eights : ℕ
eights = 4278255360

fair-bytes : Fair 3 bytes
unfolding tab
fair-bytes = record { once = refl; within = refl }

fair-pairs : Fair 6 pairs
unfolding tab
fair-pairs = record { once = refl; within = refl }

fair-fours : Fair 12 fours
unfolding tab
fair-fours = record { once = refl; within = refl }

fair-eights : Fair 24 eights
unfolding tab
fair-eights = record { once = refl; within = refl }

rows-from : tab 64 0 (λ (i : ℕ). source 3 bytes (source 6 pairs (source 12 fours (source 24 eights i)))) ≡ tab 64 0 (λ (i : ℕ). 4 * (i % 16) + i / 16)
unfolding tab
rows-from = refl

-- columns into rows, as the program has them
pub turned_rows : (x y z t r : ℕ) → y ≡ exchanged x 3 bytes → z ≡ exchanged y 6 pairs → t ≡ exchanged z 12 fours → r ≡ exchanged t 24 eights → TurnedOver r x
turned_rows x y z t r e₁ e₂ e₃ e₄ j b hj hb =
    let i = 16 * j + b in
    let h : i < 64 = omega arith in
    let there : 4 * (i % 16) + i / 16 ≡ 4 * b + j = omega arith in
    all-four fair-bytes fair-pairs fair-fours fair-eights x y z t r e₁ e₂ e₃ e₄ i h
    ∙ ap (λ (k : ℕ). x / 2 ^ k % 2)
    (at_each (λ (k : ℕ). source 3 bytes (source 6 pairs (source 12 fours (source 24 eights k)))) (λ (k : ℕ). 4 * (k % 16) + k / 16) rows-from i h ∙ there)
