-- There is a multiframe without a false word (specs/Round.antt): all that is lent for it is 1. Its zeros are fixed digits, so that a computed test of
-- every place tells where two of them stand side by side, another three places on and none between.
use mathlib.Core.Path.{◌≡◌, refl, sym, ap, ◌∙◌}
use mathlib.Core.Bool.{Bool, cond, true, false}
use mathlib.Core.List.{List}
use Prim.Native.Nat.{ℕ, zero, suc, ◌+◌, ◌-◌, ◌*◌, ◌/◌, ◌%◌, ◌^◌, ◌≤◌, ◌<◌}
use native.Mathlib.Omega.{arith}
use borrow.Author.Tests.{eqb-true}
use lib.Dec.{eqb}
use lib.ListN.{get_or, replicate, get_or-replicate}
use Rattle.digits.specs.Digits.{digits_of}
use Rattle.digits.proofs.Laws.{digit_at, digits-binary, tab-at}
use Rattle.digits.proofs.Below.{all, all-at}
use Rattle.multiframe.specs.declared.Kind.{Kind}
use Rattle.multiframe.specs.declared.Kind.TheVariants.{Fixed, Spare, Signalling, Channel}
use Rattle.multiframe.specs.Multiframe.{kind_at, digit_for, channel_from, channel_of, spares_before}
use Rattle.multiframe.specs.Calls.{BuildMet, silent_from}
use Rattle.multiframe.proofs.Told.{Told, fixed, spare, signalled, channelled, told}
use Rattle.multiframe.proofs.Places.{made-digit}
use Rattle.multiframe.proofs.Spares.{table-found}
use Rattle.multiframe.proofs.Channels.{channel-bounds}
use Rattle.finder_2048.specs.Modes.{word}
use Rattle.finder_2048_promises.specs.Round.{round_digit, NoFalseWord, ones, ones_multiframe}

-- ---- every digit is 1 but those that are fixed at 0

byte-of-ones : (k : ℕ) → k < 8 → 255 / 2 ^ (7 - k) % 2 ≡ 1
byte-of-ones zero h = refl
byte-of-ones (suc zero) h = refl
byte-of-ones (suc (suc zero)) h = refl
byte-of-ones (suc (suc (suc zero))) h = refl
byte-of-ones (suc (suc (suc (suc zero)))) h = refl
byte-of-ones (suc (suc (suc (suc (suc zero))))) h = refl
byte-of-ones (suc (suc (suc (suc (suc (suc zero)))))) h = refl
byte-of-ones (suc (suc (suc (suc (suc (suc (suc zero))))))) h = refl
byte-of-ones (suc (suc (suc (suc (suc (suc (suc (suc k)))))))) h = absurd (omega arith)

one-digit : (n i : ℕ) → i < 8 * n → get_or (digits_of (ones n)) i 0 ≡ 1
one-digit n i h = digit_at (ones n) i ∙ rw (get_or-replicate {A = ℕ} n (i / 8) 255 0 (omega arith)) (byte-of-ones (i % 8) (omega arith))

abbrev fixed_zero : Kind → Bool
fixed_zero (Fixed d) = eqb d 0
fixed_zero (Spare s) = false
fixed_zero (Signalling c) = false
fixed_zero (Channel c) = false

module _ (p : ℕ) (h : p < 4096) where
  digit-of-ones : digit_for (ones 480) (ones 15) (ones 9) p ≡ cond (fixed_zero (kind_at p)) 0 1
  digit-of-ones = by-told (told p h)
    where
      small : digit_for (ones 480) (ones 15) (ones 9) p < 2
      small = rw (made-digit (ones 480) (ones 15) (ones 9) p h) at (digits-binary ones_multiframe p)

      binary : (v : ℕ) → v < 2 → v ≡ cond (eqb v 0) 0 1
      binary zero b = refl
      binary (suc zero) b = refl
      binary (suc (suc v)) b = absurd (omega arith)

      by-told : Told p → digit_for (ones 480) (ones 15) (ones 9) p ≡ cond (fixed_zero (kind_at p)) 0 1
      by-told (fixed v e f) = rw e (binary v (rw e at small))
      by-told (spare s e f) = rw e (one-digit 9 (spares_before p) (omega (arith, (table-found p h (rw e refl)).0)))
      by-told (signalled c f e lt b n) = rw (e, n) (one-digit 15 (8 * f + p % 8) (omega arith))
      by-told (channelled g e) =
          let w = channel-bounds (p / 8 % 32) (omega arith) (omega arith) in
          rw e
          (one-digit 480 (8 * (channel_from (channel_of (p / 8 % 32)) + p / 256) + p % 8)
          (inside (channel_of (p / 8 % 32)) w.0 w.1))
        where
          inside : (c : ℕ) → 1 ≤ c → c ≤ 30 → 8 * (16 * (c - 1) + p / 256) + p % 8 < 8 * 480
          inside c lo hi = omega arith

-- ---- the test

abbrev zero_at : ℕ → Bool
zero_at p = fixed_zero (kind_at (p % 4096))

-- 0 0 1 x 0 is only where a true word begins
abbrev clean_at : ℕ → Bool
clean_at p = cond (zero_at p) (cond (zero_at (p + 1)) (cond (zero_at (p + 2)) true (cond (zero_at (p + 4)) (eqb (p % 512) 1) true)) true) true

clean_all : all 4096 clean_at ≡ true
unfolding all kind_at
clean_all = refl

pub ones-clean : NoFalseWord ones_multiframe
ones-clean p h e =
    let a = told-zero p (rw here at (digit 0 (omega arith))) in
    let b = told-zero (p + 1) (digit 1 (omega arith)) in
    let c = told-one (p + 2) (digit 2 (omega arith)) in
    let d = told-zero (p + 4) (digit 4 (omega arith)) in
    eqb-true (p % 512) 1 (rw (a, b, c, d) at (all-at 4096 clean_at clean_all p h))
  where
    here : p + 0 ≡ p
    here = omega arith

    digit : (k : ℕ) → k < 7 → round_digit ones_multiframe (p + k) ≡ get_or word k 0
    digit k lt = sym (tab-at 7 p (round_digit ones_multiframe) k lt) ∙ ap (λ (xs : List ℕ). get_or xs k 0) e

    is : (q : ℕ) → round_digit ones_multiframe q ≡ cond (zero_at q) 0 1
    is q = made-digit (ones 480) (ones 15) (ones 9) (q % 4096) (omega arith) ∙ digit-of-ones (q % 4096) (omega arith)

    zero-told : (b : Bool) → ◌≡◌ {A = ℕ} (cond b 0 1) 0 → b ≡ true
    zero-told true z = refl
    zero-told false z = absurd (omega arith)

    one_told : (b : Bool) → ◌≡◌ {A = ℕ} (cond b 0 1) 1 → b ≡ false
    one_told true z = absurd (omega arith)
    one_told false z = refl

    told-zero : (q : ℕ) → round_digit ones_multiframe q ≡ 0 → zero_at q ≡ true
    told-zero q z = zero-told (zero_at q) (sym (is q) ∙ z)

    told-one : (q : ℕ) → round_digit ones_multiframe q ≡ 1 → zero_at q ≡ false
    told-one q z = one_told (zero_at q) (sym (is q) ∙ z)

-- ---- building it is accepted, whatever was there before

pub ones-built : BuildMet (replicate 512 0) (ones 480) (ones 15) (ones 9) (record { refusal = 0; channel = 0 }) ones_multiframe
unfolding silent_from digits_of
ones-built = (refl, refl)
