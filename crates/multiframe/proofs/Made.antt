-- From bytes to the definition: a multiframe whose bytes are laid and whose spare digits are put is the one that the definition makes, and
-- what is taken byte by byte and spare digit by spare digit is what the definition names.
use mathlib.Core.Path.{◌≡◌, refl, sym, ap, ◌∙◌}
use mathlib.Core.Logic.{inl, inr}
use mathlib.Core.Bool.{Bool, cond, true, false, ◌&&◌}
use mathlib.Core.List.{List, [], ◌∷◌, ◌++◌, map}
use Prim.Native.Nat.{ℕ, zero, suc, ◌+◌, ◌-◌, ◌*◌, ◌/◌, ◌%◌, ◌^◌, ◌≤◌, ◌<◌}
use native.Mathlib.Omega.{arith}
use native.Mathlib.Nat.{zero-add}
use native.Mathlib.Decide.{ℕ_discrete}
use lib.Dec.{eqb, ltb, lit<}
use lib.ListN.{length, get_or, set, get_or-append}
use lib.Seq.{get_or-set_same, get_or-set_other, get_or-take, get_or-append-add}
use borrow.Author.Tests.{eq-eqb, ne_eqb, eqb-true, ltb-true}
use Rattle.digits.specs.Digits.{digits_of, byte_of, Bytes, Binary}
use Rattle.digits.proofs.Bits.{eight-at, eight-byte}
use Rattle.digits.proofs.Lists.{each-binary}
use Rattle.digits.proofs.Laws.{digit_at, digits-binary, bytes-by-place, bytes-length, bytes-are-bytes, digits-of-bytes, tab-at, binary-append, map-binary, map_at, zeros-at}
use Rattle.multiframe.specs.declared.SpareDigit.{SpareDigit}
use Rattle.multiframe.specs.declared.SpareDigit.TheVariants.{International, Alarm, National, Extra, MultiframeAlarm}
use Rattle.multiframe.specs.declared.Kind.TheVariants.{Fixed, Spare}
use Rattle.multiframe.specs.Multiframe.{kind_at, with_word, without_word, multiframe_byte, is_fixed, spares_before, signalling_from, channel_from, channel_of, meant, digit_for, multiframe_of}
use Rattle.multiframe.specs.Steps.{ColumnPut, ColumnTaken, Channelled, Laid, at, word_byte, other_byte, word_from, first_byte, first_bytes, sixteenth_byte, spare_table, spare_bytes}
use Rattle.multiframe.specs.Calls.{Taken}
use Rattle.digits.proofs.Tests.{and_both}
use Rattle.digits.proofs.Below.{all, all-at}
use Rattle.multiframe.proofs.Told.{InFirst, Told, fixed, spare, signalled, channelled, told, no_truth}
use Rattle.multiframe.proofs.Spares.{table, table-found, table-there}

-- ---- the bytes

-- the channels are put, then byte 0 of each frame, then byte 16 of frame 0, then byte 16 of the others
pub all_laid : (channels signalling spares one two new : List ℕ) (v from : ℕ) → length two ≡ 512 → Channelled channels one
    → ColumnPut one 0 (first_bytes (digits_of spares)) 16 two → v ≡ sixteenth_byte (digits_of spares) → ColumnPut (set two 16 v) from signalling 15 new
    → from ≡ 48 → Laid channels signalling spares new
all_laid channels signalling spares one two new v from l ch first is put at =
    record {
      channelled = λ k h g. put.stays k (λ f _ e. far k f g e) ∙ get_or-set_other two 16 k v 0 (λ e. off k g e) ∙ first.stays k (λ f _ e. away k f g e) ∙ ch k h g;
      firsts = λ f h. put.stays (32 * f) (λ g _ e. odd f g e) ∙ get_or-set_other two 16 (32 * f) v 0 (λ e. half f e) ∙ ap (λ (k : ℕ). get_or two k 0) (from_zero f) ∙ first.put f h;
      sixteenth = put.stays 16 (λ f _ e. later f e) ∙ get_or-set_same two 16 v 0 (omega arith) ∙ is;
      signalled = λ f h. ap (λ (k : ℕ). get_or new (k + 32 * f) 0) (sym at) ∙ put.put f h;
    }
  where
    far : (k f : ℕ) → 0 < k % 16 → k ≡ from + 32 * f → ⊥
    far k f g e = omega arith

    off : (k : ℕ) → 0 < k % 16 → k ≡ 16 → ⊥
    off k g e = omega arith

    away : (k f : ℕ) → 0 < k % 16 → k ≡ 0 + 32 * f → ⊥
    away k f g e = omega arith

    odd : (f g : ℕ) → 32 * f ≡ from + 32 * g → ⊥
    odd f g e = omega arith

    half : (f : ℕ) → 32 * f ≡ 16 → ⊥
    half f e = omega arith

    from_zero : (f : ℕ) → 32 * f ≡ 0 + 32 * f
    from_zero f = omega arith

    later : (f : ℕ) → 16 ≡ from + 32 * f → ⊥
    later f e = omega arith

-- ---- the digits

-- where two bytes are equal, so are their digits
same-digit : (xs ys : List ℕ) (p q : ℕ) → get_or xs (p / 8) 0 ≡ get_or ys (q / 8) 0 → p % 8 ≡ q % 8 → get_or (digits_of xs) p 0 ≡ get_or (digits_of ys) q 0
same-digit xs ys p q e m = digit_at xs p ∙ rw (e, m) (sym (digit_at ys q))

-- a channel's digit, and a signalling digit
channel-digit : (channels multiframe : List ℕ) → Channelled channels multiframe → (p : ℕ) → p < 4096 → 0 < p / 8 % 16
    → get_or (digits_of multiframe) p 0 ≡ get_or (digits_of channels) (8 * (channel_from (channel_of (p / 8 % 32)) + p / 256) + p % 8) 0
channel-digit channels multiframe w p h g =
    same-digit multiframe channels p (8 * (c + p / 256) + p % 8) (w (p / 8) (omega arith) g ∙ ap (λ (k : ℕ). get_or channels k 0) (byte_at c)) (within c)
  where
    c : ℕ
    c = channel_from (channel_of (p / 8 % 32))

    byte_at : (c : ℕ) → c + p / 8 / 32 ≡ (8 * (c + p / 256) + p % 8) / 8
    byte_at c = omega arith

    within : (c : ℕ) → p % 8 ≡ (8 * (c + p / 256) + p % 8) % 8
    within c = omega arith

signalling-digit : (signalling multiframe : List ℕ) (p s f : ℕ) → get_or multiframe (48 + 32 * f) 0 ≡ get_or signalling f 0 → p / 8 ≡ 48 + 32 * f
    → s ≡ 8 * f + p % 8 → get_or (digits_of multiframe) p 0 ≡ get_or (digits_of signalling) s 0
signalling-digit signalling multiframe p s f w k e =
    let b : s / 8 ≡ f = omega arith in
    same-digit multiframe signalling p s (rw (k, b) w) (omega arith)

-- ---- the bytes with fixed and spare digits

-- what holds of each number below eight
of-eight : (P : ℕ → Type 0) → (P 0 × P 1 × P 2 × P 3 × P 4 × P 5 × P 6 × P 7) → (d : ℕ) → d < 8 → P d
of-eight P p zero h = p.0
of-eight P p (suc zero) h = p.1
of-eight P p (suc (suc zero)) h = p.2
of-eight P p (suc (suc (suc zero))) h = p.3
of-eight P p (suc (suc (suc (suc zero)))) h = p.4
of-eight P p (suc (suc (suc (suc (suc zero))))) h = p.5
of-eight P p (suc (suc (suc (suc (suc (suc zero)))))) h = p.6
of-eight P p (suc (suc (suc (suc (suc (suc (suc zero))))))) h = p.7
of-eight P p (suc (suc (suc (suc (suc (suc (suc (suc d)))))))) h = absurd (omega arith)

-- the digits of the byte that eight digits make are these
made-of : (ds : List ℕ) → Binary ds → 8 ≤ length ds → (d : ℕ) → d < 8 → byte_of ds / 2 ^ (7 - d) % 2 ≡ get_or ds d 0
made-of ds bin l d h = sym (eight-at (byte_of ds) d h) ∙ ap (λ (xs : List ℕ). get_or xs d 0) (eight-byte ds bin l) ∙ get_or-take 8 ds d 0 h

-- the number of a spare digit by the table
numbered : (i p : ℕ) → i < 68 → get_or table i 0 ≡ p → spares_before p ≡ i
numbered i p h e = rw e at (table-there i h).number

-- in frame f, digit q of byte 0 is spare digit `4 f + 1 + m` of an odd frame, or the first of an even one
abbrev other_test : ℕ → ℕ → Bool
other_test m q = all 16 (λ (f : ℕ). cond (eqb (f % 2) 0) true (eqb (get_or table (4 * f + 1 + m) 0) (256 * f + q)))

word-right : all 16 (λ (f : ℕ). cond (eqb (f % 2) 0) (eqb (get_or table (word_from f) 0) (256 * f) && ltb (word_from f) 68) true) ≡ true
unfolding all
word-right = refl

word_number : (f p : ℕ) → f < 16 → f % 2 ≡ 0 → p ≡ 256 * f → spares_before p ≡ word_from f
word_number f p h e q =
    let t : eqb (get_or table (word_from f) 0) (256 * f) && ltb (word_from f) 68 ≡ true = rw (eq-eqb (f % 2) 0 e) at (all-at 16 _ word-right f h) in
    let w = and_both (eqb (get_or table (word_from f) 0) (256 * f)) (ltb (word_from f) 68) t in
    numbered (word_from f) p (ltb-true (word_from f) 68 w.1) (eqb-true (get_or table (word_from f) 0) (256 * f) w.0 ∙ sym q)

other-number : (m q : ℕ) → other_test m q ≡ true → m < 7 → (f p : ℕ) → f < 16 → (f % 2 ≡ 0 → ⊥) → p ≡ 256 * f + q → spares_before p ≡ 4 * f + 1 + m
other-number m q right hm f p h e at_p =
    let t : eqb (get_or table (4 * f + 1 + m) 0) (256 * f + q) ≡ true = rw (ne_eqb (f % 2) 0 e) at (all-at 16 _ right f h) in
    numbered (4 * f + 1 + m) p (omega arith) (eqb-true (get_or table (4 * f + 1 + m) 0) (256 * f + q) t ∙ sym at_p)

module _ (channels signalling spares : List ℕ) where
  -- the digits of a list that stands for a byte, digit by digit
  small : (i : ℕ) → at (digits_of spares) i < 2
  small i = digits-binary spares i

  spare-here : (p i : ℕ) (s : SpareDigit) → spares_before p ≡ i → at (digits_of spares) i ≡ meant channels signalling spares p (Spare s)
  spare-here p i s e = rw e refl

  module _ (p : ℕ) (h : p < 4096) where
    word-digit : p / 8 ≡ 32 * (p / 256) → p / 256 % 2 ≡ 0 → word_byte (digits_of spares) (word_from (p / 256)) / 2 ^ (7 - p % 8) % 2 ≡ digit_for channels signalling spares p
    unfolding kind_at
    word-digit k e =
        let b : p / 8 % 32 ≡ 0 = omega arith in
        let i = word_from (p / 256) in
        let list = at (digits_of spares) i ∷ 0 ∷ 0 ∷ 1 ∷ 1 ∷ 0 ∷ 1 ∷ 1 ∷ [] in
        let o : 0 < 2 = lit< tt in
        let j : 1 < 2 = lit< tt in
        let bin : Binary list = each-binary list (small i, (o, (o, (j, (j, (o, (j, (j, tt)))))))) in
        rw (eq-eqb (p / 8 % 32) 0 b, eq-eqb (p / 256 % 2) 0 e)
        (made-of list bin (omega arith) (p % 8) (omega arith)
        ∙ of-eight (λ (d : ℕ). p % 8 ≡ d → get_or list d 0 ≡ meant channels signalling spares p (get_or with_word d (Fixed 0)))
        ((λ z. spare-here p i International (word_number (p / 256) p (omega arith) e (omega arith))), (λ z. refl), (λ z. refl), (λ z. refl), (λ z. refl), (λ z. refl), (λ z. refl), (λ z. refl))
        (p % 8) (omega arith) refl)

    other-digit : p / 8 ≡ 32 * (p / 256) → (p / 256 % 2 ≡ 0 → ⊥) → other_byte (digits_of spares) (4 * (p / 256) + 1) / 2 ^ (7 - p % 8) % 2 ≡ digit_for channels signalling spares p
    unfolding kind_at all
    other-digit k e =
        let b : p / 8 % 32 ≡ 0 = omega arith in
        let i = 4 * (p / 256) + 1 in
        let x = at (digits_of spares) in
        let list = x i ∷ 1 ∷ x (i + 1) ∷ x (i + 2) ∷ x (i + 3) ∷ x (i + 4) ∷ x (i + 5) ∷ x (i + 6) ∷ [] in
        let j : 1 < 2 = lit< tt in
        let bin : Binary list = each-binary list (small i, (j, (small (i + 1), (small (i + 2), (small (i + 3), (small (i + 4), (small (i + 5), (small (i + 6), tt)))))))) in
        let f : p / 256 < 16 = omega arith in
        let first : spares_before p ≡ i + 0 → spares_before p ≡ i = λ s. s ∙ omega arith in
        rw (eq-eqb (p / 8 % 32) 0 b, ne_eqb (p / 256 % 2) 0 e)
        (made-of list bin (omega arith) (p % 8) (omega arith)
        ∙ of-eight (λ (d : ℕ). p % 8 ≡ d → get_or list d 0 ≡ meant channels signalling spares p (get_or without_word d (Fixed 0))) (
          (λ z. spare-here p i International (first (other-number 0 0 refl (lit< tt) (p / 256) p f e (omega arith)))),
          (λ z. refl),
          (λ z. spare-here p (i + 1) Alarm (other-number 1 2 refl (lit< tt) (p / 256) p f e (omega arith))),
          (λ z. spare-here p (i + 2) National (other-number 2 3 refl (lit< tt) (p / 256) p f e (omega arith))),
          (λ z. spare-here p (i + 3) National (other-number 3 4 refl (lit< tt) (p / 256) p f e (omega arith))),
          (λ z. spare-here p (i + 4) National (other-number 4 5 refl (lit< tt) (p / 256) p f e (omega arith))),
          (λ z. spare-here p (i + 5) National (other-number 5 6 refl (lit< tt) (p / 256) p f e (omega arith))),
          (λ z. spare-here p (i + 6) National (other-number 6 7 refl (lit< tt) (p / 256) p f e (omega arith))),
        )
        (p % 8) (omega arith) refl)

    first-digit : p / 8 ≡ 32 * (p / 256) → get_or (first_bytes (digits_of spares)) (p / 256) 0 / 2 ^ (7 - p % 8) % 2 ≡ digit_for channels signalling spares p
    first-digit k =
        let g = first_byte (digits_of spares) in
        let is : get_or (first_bytes (digits_of spares)) (p / 256) 0 ≡ g (p / 256) = tab-at 16 0 g (p / 256) (omega arith) ∙ ap g (zero-add (p / 256)) in
        rw is
        (elim (ℕ_discrete (p / 256 % 2) 0) [
          | yes e ↦ rw (eq-eqb (p / 256 % 2) 0 e) (word-digit k e)
          | no e ↦ rw (ne_eqb (p / 256 % 2) 0 e) (other-digit k e)
        ])

    sixteenth-digit : p / 8 ≡ 16 → sixteenth_byte (digits_of spares) / 2 ^ (7 - p % 8) % 2 ≡ digit_for channels signalling spares p
    unfolding kind_at
    sixteenth-digit k =
        let b : p / 8 % 32 ≡ 16 = omega arith in
        let f : p / 256 ≡ 0 = omega arith in
        let x = at (digits_of spares) in
        let list : List ℕ = 0 ∷ 0 ∷ 0 ∷ 0 ∷ x 1 ∷ x 2 ∷ x 3 ∷ x 4 ∷ [] in
        let o : 0 < 2 = lit< tt in
        let bin : Binary list = each-binary list (o, (o, (o, (o, (small 1, (small 2, (small 3, (small 4, tt)))))))) in
        rw (b, f)
        (made-of list bin (omega arith) (p % 8) (omega arith)
        ∙ of-eight (λ (d : ℕ). p % 8 ≡ d → get_or list d 0 ≡ meant channels signalling spares p (get_or multiframe_byte d (Fixed 0))) (
          (λ z. refl),
          (λ z. refl),
          (λ z. refl),
          (λ z. refl),
          (λ z. spare-here p 1 Extra (numbered 1 p (lit< tt) (omega arith))),
          (λ z. spare-here p 2 MultiframeAlarm (numbered 2 p (lit< tt) (omega arith))),
          (λ z. spare-here p 3 Extra (numbered 3 p (lit< tt) (omega arith))),
          (λ z. spare-here p 4 Extra (numbered 4 p (lit< tt) (omega arith))),
        )
        (p % 8) (omega arith) refl)

-- ---- building

module _ (channels signalling spares new : List ℕ) (laid : Laid channels signalling spares new) where
  in-first : (p : ℕ) → p < 4096 → InFirst p → get_or (digits_of new) p 0 ≡ digit_for channels signalling spares p
  in-first p h (inl k) = digit_at new p ∙ rw (k, laid.firsts (p / 256) (omega arith)) (first-digit channels signalling spares p h k)
  in-first p h (inr k) = digit_at new p ∙ rw (k, laid.sixteenth) (sixteenth-digit channels signalling spares p h k)

  built-digit : (p : ℕ) → p < 4096 → Told p → get_or (digits_of new) p 0 ≡ digit_for channels signalling spares p
  built-digit p h (fixed v e w) = in-first p h w
  built-digit p h (spare s e w) = in-first p h w
  built-digit p h (signalled c f e g k s) = rw e (signalling-digit signalling new p (signalling_from c + p % 4) f (laid.signalled f g) k s)
  built-digit p h (channelled g e) = rw e (channel-digit channels new laid.channelled p h g)

  pub built-is : Bytes new → length new ≡ 512 → new ≡ multiframe_of channels signalling spares
  unfolding multiframe_of
  built-is b l =
      bytes-by-place new (digit_for channels signalling spares) b (λ p h. built-digit p (omega arith) (told p (omega arith))) ∙ rw l refl

-- ---- the spare digits taken

module _ (multiframe : List ℕ) where
  abbrev list : List ℕ
  list = map (at (digits_of multiframe)) spare_table ++ (0 ∷ 0 ∷ 0 ∷ 0 ∷ [])

  list-binary : Binary list
  list-binary =
      let o : 0 < 2 = lit< tt in
      binary-append (map (at (digits_of multiframe)) spare_table) (0 ∷ 0 ∷ 0 ∷ 0 ∷ []) (map-binary (at (digits_of multiframe)) spare_table (digits-binary multiframe))
      (each-binary (0 ∷ 0 ∷ 0 ∷ 0 ∷ []) (o, (o, (o, (o, tt)))))

  list-digits : digits_of (spare_bytes (digits_of multiframe)) ≡ list
  unfolding spare_bytes
  list-digits = digits-of-bytes 9 list list-binary refl

  pub spare-digit : (i : ℕ) → i < 68 → get_or (digits_of (spare_bytes (digits_of multiframe))) i 0 ≡ get_or (digits_of multiframe) (get_or table i 0) 0
  spare-digit i h =
      ap (λ (ds : List ℕ). get_or ds i 0) list-digits
      ∙ get_or-append (map (at (digits_of multiframe)) spare_table) (0 ∷ 0 ∷ 0 ∷ 0 ∷ []) 0 i h
      ∙ map_at (at (digits_of multiframe)) spare_table i h

  pub spare-rest : (i : ℕ) → 68 ≤ i → i < 72 → get_or (digits_of (spare_bytes (digits_of multiframe))) i 0 ≡ 0
  spare-rest i lo hi =
      let e : i ≡ 68 + (i - 68) = omega arith in
      ap (λ (ds : List ℕ). get_or ds i 0) list-digits
      ∙ ap (λ (k : ℕ). get_or list k 0) e
      ∙ get_or-append-add (map (at (digits_of multiframe)) spare_table) (0 ∷ 0 ∷ 0 ∷ 0 ∷ []) (i - 68) 0
      ∙ zeros-at 4 (i - 68)

  pub spare-bytes-are : Bytes (spare_bytes (digits_of multiframe)) × (length (spare_bytes (digits_of multiframe)) ≡ 9)
  unfolding spare_bytes
  spare-bytes-are = (bytes-are-bytes 9 list list-binary, bytes-length 9 list)

-- ---- taking apart

module _ (multiframe channels signalling spares : List ℕ) (ch : Channelled channels multiframe) (si : ColumnTaken multiframe 48 15 signalling)
    (sp : spares ≡ spare_bytes (digits_of multiframe)) where
  taken-digit : (p : ℕ) → p < 4096 → is_fixed (kind_at p) ≡ false → Told p → digit_for channels signalling spares p ≡ get_or (digits_of multiframe) p 0
  taken-digit p h n (fixed v e w) = absurd (no_truth (sym (rw e at n)))
  taken-digit p h n (spare s e w) =
      let t = table-found p h (rw e refl) in
      rw (e, sp) (spare-digit multiframe (spares_before p) t.0 ∙ ap (λ (q : ℕ). get_or (digits_of multiframe) q 0) t.1)
  taken-digit p h n (signalled c f e g k s) = rw e (sym (signalling-digit signalling multiframe p (signalling_from c + p % 4) f (sym (si f g)) k s))
  taken-digit p h n (channelled g e) = rw e (sym (channel-digit channels multiframe ch p h g))

  pub all-taken-apart : length channels ≡ 480 → length signalling ≡ 15 → Bytes channels → Bytes signalling → Taken multiframe channels signalling spares
  all-taken-apart lc ls bc bs =
      record {
        lengths = (lc, ls, rw sp (spare-bytes-are multiframe).1);
        bytes = (bc, bs, rw sp (spare-bytes-are multiframe).0);
        each = λ p h n. taken-digit p h n (told p h);
        rest = rw sp (spare-rest multiframe);
      }
