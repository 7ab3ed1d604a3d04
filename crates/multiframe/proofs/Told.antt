-- What each place is, told with where its byte comes from: bytes 0 and 16 of the sixteen frames by one computed test each, all others at once.
use mathlib.Core.Path.{◌≡◌, refl, subst, ◌∙◌}
use mathlib.Core.Logic.{◌⊎◌, inl, inr}
use mathlib.Core.Bool.{Bool, cond, true, false}
use Prim.Native.Nat.{ℕ, zero, suc, ◌+◌, ◌-◌, ◌*◌, ◌/◌, ◌%◌, ◌≤◌, ◌<◌}
use native.Mathlib.Omega.{arith}
use native.Mathlib.Decide.{dec_lt, ℕ_discrete}
use lib.Dec.{eqb}
use lib.ListN.{get_or, get_or-replicate}
use borrow.Author.Tests.{eq-eqb, ne_eqb, eqb-true}
use Rattle.digits.proofs.Below.{all, all-at}
use Rattle.multiframe.specs.declared.SpareDigit.{SpareDigit}
use Rattle.multiframe.specs.declared.Kind.{Kind}
use Rattle.multiframe.specs.declared.Kind.TheVariants.{Fixed, Spare, Signalling, Channel}
use Rattle.multiframe.specs.Multiframe.{kind_at, with_word, without_word, multiframe_byte, signalling_byte, channel_of, signalling_from}

-- no is not yes
pub no_truth : false ≡ true → ⊥
no_truth e = subst (λ (t : Bool). cond t ⊥ (Unit {0})) e tt

-- ---- what a place is, and where its byte comes from

-- byte 0 of a frame, or byte 16 of frame 0
abbrev pub InFirst : ℕ → Type 0
InFirst p = (p / 8 ≡ 32 * (p / 256)) ⊎ (p / 8 ≡ 16)

pub data Told (p : ℕ) : Type 0 where
  fixed : (v : ℕ) → kind_at p ≡ Fixed v → InFirst p → Told p
  spare : (s : SpareDigit) → kind_at p ≡ Spare s → InFirst p → Told p
  signalled : (c f : ℕ) → kind_at p ≡ Signalling c → f < 15 → p / 8 ≡ 48 + 32 * f → signalling_from c + p % 4 ≡ 8 * f + p % 8 → Told p
  channelled : 0 < p / 8 % 16 → kind_at p ≡ Channel (channel_of (p / 8 % 32)) → Told p

-- bytes 0, and 16 of frame 0: fixed or spare
abbrev fixed_or_spare : Kind → Bool
fixed_or_spare (Fixed v) = true
fixed_or_spare (Spare s) = true
fixed_or_spare (Signalling c) = false
fixed_or_spare (Channel c) = false

from-fixed : (p : ℕ) → InFirst p → (k : Kind) → kind_at p ≡ k → fixed_or_spare k ≡ true → Told p
from-fixed p h (Fixed v) e t = fixed v e h
from-fixed p h (Spare s) e t = spare s e h
from-fixed p h (Signalling c) e t = absurd (no_truth t)
from-fixed p h (Channel c) e t = absurd (no_truth t)

first-right : all 128 (λ (i : ℕ). fixed_or_spare (kind_at (256 * (i / 8) + i % 8))) ≡ true
unfolding all kind_at
first-right = refl

sixteenth-right : all 8 (λ (i : ℕ). fixed_or_spare (kind_at (128 + i))) ≡ true
unfolding all kind_at
sixteenth-right = refl

-- byte 16 of the other frames: signalling, in the order of the bytes lent for it
abbrev right_signalling : Kind → ℕ → Bool
right_signalling (Fixed v) i = false
right_signalling (Spare s) i = false
right_signalling (Signalling c) i = eqb (signalling_from c + i % 4) i
right_signalling (Channel c) i = false

signalling-right : all 120 (λ (i : ℕ). right_signalling (kind_at (256 * (i / 8 + 1) + 128 + i % 8)) i) ≡ true
unfolding all kind_at
signalling-right = refl

pub record Signalled (i p : ℕ) : Type 0 where
  pub channel : ℕ
  pub kind : kind_at p ≡ Signalling channel
  pub number : signalling_from channel + p % 4 ≡ i

from-signalling : (p i : ℕ) → p % 4 ≡ i % 4 → (k : Kind) → kind_at p ≡ k → right_signalling k i ≡ true → Signalled i p
from-signalling p i f (Fixed v) e t = absurd (no_truth t)
from-signalling p i f (Spare s) e t = absurd (no_truth t)
from-signalling p i f (Signalling c) e t = record { channel = c; kind = e; number = rw f (eqb-true (signalling_from c + i % 4) i t) }
from-signalling p i f (Channel c) e t = absurd (no_truth t)

pub signalling-there : (i : ℕ) → i < 120 → Signalled i (256 * (i / 8 + 1) + 128 + i % 8)
signalling-there i h =
    let p = 256 * (i / 8 + 1) + 128 + i % 8 in
    from-signalling p i (omega arith) (kind_at p) refl (all-at 120 _ signalling-right i h)

-- the tables by the byte of the frame: byte 0 of a frame with the word and of one without it
module _ (p : ℕ) where
  pub kind-word : p / 8 % 32 ≡ 0 → p / 256 % 2 ≡ 0 → kind_at p ≡ get_or with_word (p % 8) (Fixed 0)
  unfolding kind_at
  kind-word b f = rw (eq-eqb (p / 8 % 32) 0 b, eq-eqb (p / 256 % 2) 0 f) refl

  pub kind-other : p / 8 % 32 ≡ 0 → (p / 256 % 2 ≡ 0 → ⊥) → kind_at p ≡ get_or without_word (p % 8) (Fixed 0)
  unfolding kind_at
  kind-other b f = rw (eq-eqb (p / 8 % 32) 0 b, ne_eqb (p / 256 % 2) 0 f) refl

  -- byte 0 and byte 16 of any frame
  pub kind-first : p / 8 % 32 ≡ 0 → kind_at p ≡ get_or (cond (eqb (p / 256 % 2) 0) with_word without_word) (p % 8) (Fixed 0)
  unfolding kind_at
  kind-first b = rw (eq-eqb (p / 8 % 32) 0 b) refl

  pub kind-sixteenth : p / 8 % 32 ≡ 16 → kind_at p ≡ get_or (cond (eqb (p / 256) 0) multiframe_byte (signalling_byte (p / 256))) (p % 8) (Fixed 0)
  unfolding kind_at
  kind-sixteenth b = rw (ne_eqb (p / 8 % 32) 0 (λ e. omega arith), eq-eqb (p / 8 % 32) 16 b) refl

-- every other byte is a channel's
pub kind-channel : (p : ℕ) → 0 < p / 8 % 16 → kind_at p ≡ Channel (channel_of (p / 8 % 32))
unfolding kind_at
kind-channel p h =
    rw (ne_eqb (p / 8 % 32) 0 (λ e. omega arith), ne_eqb (p / 8 % 32) 16 (λ e. omega arith))
    (get_or-replicate 8 (p % 8) (Channel (channel_of (p / 8 % 32))) (Fixed 0) (omega arith))

pub told : (p : ℕ) → p < 4096 → Told p
told p h =
    elim (dec_lt 0 (p / 8 % 16)) [
      | yes g ↦ channelled g (kind-channel p g)
      | no g ↦
          elim (ℕ_discrete (p / 8 % 32) 0) [
            | yes z ↦ at_first (omega arith)
            | no z ↦
                elim (dec_lt p 256) [
                  | yes l ↦ at-sixteenth (sixteen p l (not-zero (p / 8 % 16) g) z)
                  | no l ↦ at-signalling (omega arith, other p h (omega arith) (not-zero (p / 8 % 16) g) z)
                ]
          ]
    ]
  where
    not-zero : (n : ℕ) → (0 < n → ⊥) → n ≡ 0
    not-zero n g =
        elim (ℕ_discrete n 0) [
          | yes e ↦ e
          | no e ↦ absurd (g (positive n e))
        ]
      where
        positive : (n : ℕ) → (n ≡ 0 → ⊥) → 0 < n
        positive zero e = absurd (e refl)
        positive (suc n) e = omega arith

    half : (b : ℕ) → b % 16 ≡ 0 → b < 32 → (b ≡ 0 → ⊥) → b ≡ 16
    half b m l z =
        elim (dec_lt b 16) [
          | yes s ↦ absurd (z (omega arith))
          | no s ↦ omega arith
        ]

    sixteen : (p : ℕ) → p < 256 → p / 8 % 16 ≡ 0 → (p / 8 % 32 ≡ 0 → ⊥) → p ≡ 128 + p % 8
    sixteen p l m z = let e : p / 8 % 32 ≡ 16 = half (p / 8 % 32) (omega arith) (omega arith) z in omega arith

    at_first : p ≡ 256 * (p / 256) + p % 8 → Told p
    at_first e =
        let i : (8 * (p / 256) + p % 8) / 8 ≡ p / 256 = omega arith in
        let d : (8 * (p / 256) + p % 8) % 8 ≡ p % 8 = omega arith in
        let t = all-at 128 _ first-right (8 * (p / 256) + p % 8) (omega arith) in
        from-fixed p (inl (omega arith)) (kind_at p) refl (rw (i, d, ← e) at t)

    at-sixteenth : p ≡ 128 + p % 8 → Told p
    at-sixteenth e =
        let t = all-at 8 _ sixteenth-right (p % 8) (omega arith) in
        from-fixed p (inr (omega arith)) (kind_at p) refl (rw (← e) at t)

    other : (p : ℕ) → p < 4096 → 256 ≤ p → p / 8 % 16 ≡ 0 → (p / 8 % 32 ≡ 0 → ⊥) → p ≡ 256 * (p / 256) + 128 + p % 8
    other p h l m z = let e : p / 8 % 32 ≡ 16 = half (p / 8 % 32) (omega arith) (omega arith) z in omega arith

    at-signalling : (256 ≤ p) × (p ≡ 256 * (p / 256) + 128 + p % 8) → Told p
    at-signalling e = by_number (8 * (p / 256 - 1) + p % 8) (omega (arith, e.0)) (omega (arith, e.0, e.1))
      where
        by_number : (i : ℕ) → i < 120 → 256 * (i / 8 + 1) + 128 + i % 8 ≡ p → Told p
        by_number i l q =
            let t : Signalled i p = rw q at (signalling-there i l) in
            let sum : i ≡ 8 * (i / 8) + p % 8 = omega arith in
            signalled t.channel (i / 8) t.kind (omega arith) (omega arith) (t.number ∙ sum)
