-- The other way: every digit of the channels, of the signalling and of the spare digits stands at a place, so that what is taken apart is
-- known digit by digit.
use mathlib.Core.Path.{◌≡◌, refl, sym, ap, ◌∙◌}
use mathlib.Core.Bool.{Bool, cond, true, false}
use mathlib.Core.List.{List, [], ◌∷◌}
use Prim.Native.Nat.{ℕ, zero, suc, ◌+◌, ◌-◌, ◌*◌, ◌/◌, ◌%◌, ◌<◌}
use native.Mathlib.Omega.{arith}
use native.Mathlib.Nat.{zero-add}
use lib.Dec.{eqb, lit<}
use lib.ListN.{length, get_or, replicate}
use Rattle.digits.specs.Digits.{digits_of, tab, Binary}
use Rattle.digits.proofs.Laws.{digits-binary, digits-of-bytes, bytes-length, tab-length, tab-at, tab-binary}
use Rattle.multiframe.specs.declared.Kind.{Kind}
use Rattle.multiframe.specs.declared.Kind.TheVariants.{Fixed, Spare, Signalling, Channel}
use Rattle.multiframe.specs.Multiframe.{kind_at, kinds_of, with_word, without_word, multiframe_byte, signalling_byte}
use Rattle.multiframe.specs.Multiframe.{channel_of, channel_from, is_spare, is_fixed, spares_before, signalling_from, meant, digit_for, multiframe_of}
use Rattle.multiframe.specs.Steps.{column_of}
use Rattle.multiframe.specs.Calls.{Taken}
use Rattle.multiframe.proofs.Channels.{Column, column-there}
use Rattle.multiframe.proofs.Told.{no_truth, kind-channel, signalling-there}
use Rattle.multiframe.proofs.Spares.{table, table-there}

-- ---- the definition makes digits

abbrev Small : Kind → Type 0
Small (Fixed v) = v < 2
Small (Spare s) = Unit {0}
Small (Signalling c) = Unit {0}
Small (Channel c) = Unit {0}

abbrev EachSmall : List Kind → Type 0
EachSmall [] = Unit {0}
EachSmall (k ∷ ks) = Small k × EachSmall ks

each-small : (ks : List Kind) → EachSmall ks → (i : ℕ) → Small (get_or ks i (Fixed 0))
each-small [] e i = lit< tt
each-small (k ∷ ks) e zero = e.0
each-small (k ∷ ks) e (suc i) = each-small ks e.1 i

two_ways : (P : List Kind → Type 0) (t : Bool) (a b : List Kind) → P a → P b → P (cond t a b)
two_ways P true a b x y = x
two_ways P false a b x y = y

kinds-small : (f b : ℕ) → EachSmall (kinds_of f b)
kinds-small f b =
    two_ways EachSmall (eqb b 0) (cond (eqb (f % 2) 0) with_word without_word) (cond (eqb b 16) (cond (eqb f 0) multiframe_byte (signalling_byte f)) (replicate 8 (Channel (channel_of b))))
    (two_ways EachSmall (eqb (f % 2) 0) with_word without_word
    (tt, (omega arith, (omega arith, (omega arith, (omega arith, (omega arith, (omega arith, (omega arith, tt)))))))) (tt, (omega arith, (tt, (tt, (tt, (tt, (tt, (tt, tt)))))))))
    (two_ways EachSmall (eqb b 16) (cond (eqb f 0) multiframe_byte (signalling_byte f)) (replicate 8 (Channel (channel_of b)))
    (two_ways EachSmall (eqb f 0) multiframe_byte (signalling_byte f)
    (omega arith, (omega arith, (omega arith, (omega arith, (tt, (tt, (tt, (tt, tt)))))))) (tt, (tt, (tt, (tt, (tt, (tt, (tt, (tt, tt)))))))))
    (tt, (tt, (tt, (tt, (tt, (tt, (tt, (tt, tt)))))))))

kind-small : (p : ℕ) → Small (kind_at p)
unfolding kind_at
kind-small p = each-small (kinds_of (p / 256) (p / 8 % 32)) (kinds-small (p / 256) (p / 8 % 32)) (p % 8)

module _ (channels signalling spares : List ℕ) where
  meant-digit : (p : ℕ) (k : Kind) → Small k → meant channels signalling spares p k < 2
  meant-digit p (Fixed v) e = e
  meant-digit p (Spare s) e = digits-binary spares (spares_before p)
  meant-digit p (Signalling c) e = digits-binary signalling (signalling_from c + p % 4)
  meant-digit p (Channel c) e = digits-binary channels (8 * (channel_from c + p / 256) + p % 8)

  binary : Binary (tab 4096 0 (digit_for channels signalling spares))
  binary = tab-binary 4096 0 (digit_for channels signalling spares) (λ p. meant-digit p (kind_at p) (kind-small p))

  pub spare-meant : (p i : ℕ) → is_spare (kind_at p) ≡ true → spares_before p ≡ i → digit_for channels signalling spares p ≡ get_or (digits_of spares) i 0
  spare-meant p i s n = by_kind (kind_at p) s
    where
      by_kind : (k : Kind) → is_spare k ≡ true → meant channels signalling spares p k ≡ get_or (digits_of spares) i 0
      by_kind (Fixed v) t = absurd (no_truth t)
      by_kind (Spare x) t = rw n refl
      by_kind (Signalling c) t = absurd (no_truth t)
      by_kind (Channel c) t = absurd (no_truth t)

  pub spare-not-fixed : (p : ℕ) → is_spare (kind_at p) ≡ true → is_fixed (kind_at p) ≡ false
  spare-not-fixed p s = by_kind (kind_at p) s
    where
      by_kind : (k : Kind) → is_spare k ≡ true → is_fixed k ≡ false
      by_kind (Fixed v) t = absurd (no_truth t)
      by_kind (Spare x) t = refl
      by_kind (Signalling c) t = refl
      by_kind (Channel c) t = refl

  pub made-length : length (multiframe_of channels signalling spares) ≡ 512
  unfolding multiframe_of
  made-length = bytes-length 512 _

  -- a built multiframe, digit by digit
  pub made-digit : (p : ℕ) → p < 4096 → get_or (digits_of (multiframe_of channels signalling spares)) p 0 ≡ digit_for channels signalling spares p
  unfolding multiframe_of
  made-digit p h =
      ap (λ (ds : List ℕ). get_or ds p 0) (digits-of-bytes 512 (tab 4096 0 (digit_for channels signalling spares)) binary (tab-length 4096 0 (digit_for channels signalling spares)))
      ∙ tab-at 4096 0 (digit_for channels signalling spares) p h
      ∙ ap (digit_for channels signalling spares) (zero-add p)

-- ---- the place of each digit

pub record Stands (i p : ℕ) (c : ℕ) : Type 0 where
  pub below : p < 4096
  pub kind : kind_at p ≡ Channel c
  pub number : 8 * (channel_from c + p / 256) + p % 8 ≡ i

abbrev pub channel_place : ℕ → ℕ
channel_place i = 256 * (i % 128 / 8) + 8 * column_of (i / 128) + i % 8

-- place 256 f + 8 b + d is digit d of byte b of frame f
record Digit (f b d p : ℕ) : Type 0 where
  in_byte : p / 8 % 32 ≡ b
  half : p / 8 % 16 ≡ b % 16
  in_frame : p / 256 ≡ f
  in_eight : p % 8 ≡ d
  below : p < 4096

digit-of : (f b d : ℕ) → f < 16 → b < 32 → d < 8 → Digit f b d (256 * f + 8 * b + d)
digit-of f b d hf hb hd = record { in_byte = omega arith; half = omega arith; in_frame = omega arith; in_eight = omega arith; below = omega arith }

-- digit i of the channels is digit i % 8 of byte i % 128 / 8 of channel i / 128 + 1
parts : (i : ℕ) → 8 * (16 * (i / 128 + 1 - 1) + i % 128 / 8) + i % 8 ≡ i
parts i =
    let a : i / 128 + 1 - 1 ≡ i / 128 = omega arith in
    let b : 8 * (i % 128 / 8) + i % 8 ≡ i % 128 = omega arith in
    rw a (omega (arith, b))

pub channel-stands : (i : ℕ) → i < 3840 → Stands i (channel_place i) (i / 128 + 1)
channel-stands i h = go (column_of (i / 128)) (column-there (i / 128) (omega arith))
  where
    go : (b : ℕ) → Column (i / 128) b → Stands i (256 * (i % 128 / 8) + 8 * b + i % 8) (i / 128 + 1)
    go b col =
        let p = 256 * (i % 128 / 8) + 8 * b + i % 8 in
        let w = digit-of (i % 128 / 8) b (i % 8) (omega arith) col.inside (omega arith) in
        let g : 0 < p / 8 % 16 = rw w.half col.between in
        record {
          below = w.below;
          kind = kind-channel p g ∙ rw w.in_byte (ap Channel col.channel);
          number = rw (w.in_frame, w.in_eight) (parts i);
        }

abbrev pub signalling_place : ℕ → ℕ
signalling_place i = 256 * (i / 8 + 1) + 128 + i % 8

-- ---- what is taken apart, digit by digit

module _ (multiframe channels signalling spares : List ℕ) (t : Taken multiframe channels signalling spares) where
  pub channel-taken : (i : ℕ) → i < 3840 → get_or (digits_of channels) i 0 ≡ get_or (digits_of multiframe) (channel_place i) 0
  channel-taken i h =
      let s = channel-stands i h in
      let e = t.each (channel_place i) s.below (rw s.kind refl) in
      rw (s.kind, s.number) at e

  pub spare-taken : (i : ℕ) → i < 68 → get_or (digits_of spares) i 0 ≡ get_or (digits_of multiframe) (get_or table i 0) 0
  spare-taken i h =
      let s = table-there i h in
      sym (spare-meant channels signalling spares (get_or table i 0) i s.spare s.number)
      ∙ t.each (get_or table i 0) s.below (spare-not-fixed channels signalling spares (get_or table i 0) s.spare)

  pub signalling-taken : (i : ℕ) → i < 120 → get_or (digits_of signalling) i 0 ≡ get_or (digits_of multiframe) (signalling_place i) 0
  signalling-taken i h =
      let s = signalling-there i h in
      rw (s.kind, s.number) at (t.each (signalling_place i) (omega arith) (rw s.kind refl))
