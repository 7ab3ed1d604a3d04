-- Laws of writing: a number's digits cut in two, four bytes stored, and what a writer has put out after n digits more.
use mathlib.Core.Path.{◌≡◌, refl, sym, ap, ◌∙◌}
use mathlib.Core.List.{List, [], ◌∷◌, ◌++◌, append_assoc, append-nil}
use Prim.Native.Nat.{ℕ, zero, suc, ◌+◌, ◌-◌, ◌*◌, ◌/◌, ◌%◌, ◌^◌, ◌≤◌, ◌<◌}
use native.Mathlib.Omega.{arith}
use native.Mathlib.Nat.{add-zero, zero-add, suc-add}
use lib.ListN.{length, set, take, drop, length-append}
use lib.Seq.{sets, sets-eq, length-take-le, take_at, drop_at, take-take, take-nil, drop-drop, drop-append-le}
use lib.Arith.{digits_lt}
use lib.Bits.{bit_or, bit_and, or_shifted, and_mask, mask_lt}
use lib.Pow.{pow-add, shl_exact}
use borrow.Rule.Slice.PartMut.{put_mid}
use Rattle.digits.specs.Digits.{digits_of, written}
use Rattle.digits.proofs.Laws.{digits_append}
use Rattle.digits.proofs.Written.{written-zero, written-mod, written-split, written-cat, byte-written}
use Rattle.words.specs.declared.Writer.{Writer}
use Rattle.words.specs.Words.{four, Ready, out_from, Appended, zeros_after, Finished}

-- eight digits of a number, of which so many come after them
abbrev byte : ℕ → ℕ → ℕ
byte w k = w / 2 ^ k % 256

pub four-written : (w : ℕ) → digits_of (four w) ≡ written 32 w
unfolding digits_of
four-written w =
    sym (
    written-split 8 24 w
    ∙ rw (written-split 8 16 w, written-split 8 8 w, byte-written (w / 2 ^ 24), byte-written (w / 2 ^ 16), byte-written (w / 2 ^ 8), byte-written w)
    )

-- the last 32 digits as four bytes
pub four-bytes : (out : ℕ) → byte (bit_and out (2 ^ 32 - 1)) 24 ∷ byte (bit_and out (2 ^ 32 - 1)) 16 ∷ byte (bit_and out (2 ^ 32 - 1)) 8 ∷ bit_and out (2 ^ 32 - 1) % 256 ∷ [] ≡ four out
four-bytes out =
    let e₀ : byte (out % 2 ^ 32) 24 ≡ byte out 24 = omega arith in
    let e₁ : byte (out % 2 ^ 32) 16 ≡ byte out 16 = omega arith in
    let e₂ : byte (out % 2 ^ 32) 8 ≡ byte out 8 = omega arith in
    let e₃ : out % 2 ^ 32 % 256 ≡ out % 256 = omega arith in
    rw (and_mask out 32, e₀, e₁, e₂, e₃)

-- bytes copied into a part of a slice
pub stored-part : (l bytes vs : List ℕ) (at k : ℕ) → at + k ≤ length l → k ≡ length vs → bytes ≡ vs → put_mid at (at + k - at) l bytes ≡ sets l at vs
stored-part l bytes vs at k room e b =
    let n : at + k - at ≡ length vs = omega (arith, e) in
    rw (n, b, drop-drop (length vs) at l)
    (sym (sets-eq vs l at (omega (arith, e)) ∙ append_assoc (take at l) vs (drop (at + length vs) l)))

-- all that a writer does: it stores bytes, and holds what is left. The digits stored and held are those held before, then the new ones
module _ (old : List ℕ) (w r : Writer) (bs : List ℕ) (n : ℕ) (ds : List ℕ) (room : w.at + length bs ≤ length old) where
  abbrev front : List ℕ
  front = take w.at old

  abbrev pub new : List ℕ
  new = sets old w.at bs

  new_is : new ≡ front ++ bs ++ drop (w.at + length bs) old
  new_is = sets-eq bs old w.at room

  front_length : length front ≡ w.at
  front_length = length-take-le w.at old (omega arith)

  through-length : length (front ++ bs) ≡ w.at + length bs
  through-length = length-append front bs ∙ rw front_length

  through : take (w.at + length bs) new ≡ front ++ bs
  through = rw new_is (take_at (front ++ bs) (drop (w.at + length bs) old) (w.at + length bs) through-length)

  pub stored : r.at ≡ w.at + length bs → Ready r.fill r.held → 8 * length bs + r.fill ≡ w.fill + n
      → digits_of bs ++ written r.fill r.held ≡ written w.fill w.held ++ ds
      → Appended old new w r n ds
  unfolding out_from
  stored at ready place same =
      record {
        ready = ready;
        forward = omega arith;
        place = omega arith;
        out = λ start l.
            let before = digits_of (drop start front) in
            rw (at, through, drop-append-le start front bs (omega (arith, front_length)), digits_append (drop start front) bs)
            (append_assoc before (digits_of bs) (written r.fill r.held)
            ∙ ap (λ (es : List ℕ). before ++ es) same
            ∙ sym (append_assoc before (written w.fill w.held) ds));
        front =
            sym (take-take w.at (w.at + length bs) new (omega arith)) ∙ rw through (take_at front bs w.at front_length);
        back = rw (at, new_is) (drop_at (front ++ bs) (drop (w.at + length bs) old) (w.at + length bs) through-length);
      }

-- n digits more come to those held
module _ (old : List ℕ) (w : Writer) (n word : ℕ) (ready : Ready w.fill w.held) (few : n ≤ 32) (fits : word < 2 ^ n) where
  abbrev pub all : ℕ
  all = w.held * 2 ^ n + word

  -- what the program computes
  pub all-is : bit_or (w.held * 2 ^ n % 2 ^ 64) word ≡ all
  all-is = rw (shl_exact {a = w.held} w.fill n 64 ready.fits (omega (arith, ready.few))) (or_shifted w.held n word fits)

  all-written : written (w.fill + n) all ≡ written w.fill w.held ++ written n word
  all-written = written-cat w.fill n w.held word fits

  all-fits : all < 2 ^ (w.fill + n)
  all-fits = rw (pow-add 2 w.fill n) (digits_lt ready.fits fits)

  -- they stay held
  pub put-held : w.fill + n < 32 → w.at ≤ length old
      → Appended old old w (record { at = w.at; held = bit_or (w.held * 2 ^ n % 2 ^ 64) word; fill = w.fill + n }) n (written n word)
  unfolding digits_of
  put-held h room =
      rw all-is
      (stored old w (record { at = w.at; held = all; fill = w.fill + n }) [] n (written n word) (omega arith) (omega arith)
      (record { few = h; fits = all-fits }) (omega arith) all-written)

  -- or four bytes are stored
  module _ (h : 32 ≤ w.fill + n) (room : w.at + 4 ≤ length old) where
    abbrev rest : ℕ
    rest = w.fill + n - 32

    both : digits_of (four (all / 2 ^ rest)) ++ written rest (bit_and all (2 ^ rest - 1)) ≡ written w.fill w.held ++ written n word
    both =
        let whole : 32 + rest ≡ w.fill + n = omega arith in
        rw (four-written (all / 2 ^ rest), and_mask all rest, written-mod rest rest all (omega arith))
        (sym (written-split 32 rest all) ∙ rw whole all-written)

    -- in what the program has
    pub put-stored : (raw mask : ℕ) (new : List ℕ) → raw ≡ all → mask ≡ 2 ^ rest - 1 → new ≡ sets old w.at (four (raw / 2 ^ rest))
        → Appended old new w (record { at = w.at + 4; held = bit_and raw mask; fill = rest }) n (written n word)
    put-stored raw mask new e m s =
        rw (s, e, m)
        (stored old w (record { at = w.at + 4; held = bit_and all (2 ^ rest - 1); fill = rest }) (four (all / 2 ^ rest)) n (written n word)
        room refl (record { few = omega (arith, ready.few); fits = mask_lt all rest }) (omega arith) both)

one_written : (w : ℕ) → digits_of (w % 256 ∷ []) ≡ written 8 w
unfolding digits_of
one_written w = sym (byte-written w)

-- the first eight digits held are stored as a byte
pub byte-stored : (old : List ℕ) (w : Writer) (byte mask : ℕ) (new : List ℕ) → Ready w.fill w.held → 8 ≤ w.fill → w.at < length old
    → byte ≡ w.held / 2 ^ (w.fill - 8) % 256 → mask ≡ 2 ^ (w.fill - 8) - 1 → new ≡ set old w.at byte
    → Appended old new w (record { at = w.at + 1; held = bit_and w.held mask; fill = w.fill - 8 }) 0 []
byte-stored old w byte mask new ready some room b m s =
    rw (s, b, m)
    (stored old w (record { at = w.at + 1; held = bit_and w.held (2 ^ rest - 1); fill = rest }) (first ∷ []) 0 [] (omega arith) refl
    (record { few = omega (arith, ready.few); fits = mask_lt w.held rest }) (omega arith) same)
  where
    rest : ℕ
    rest = w.fill - 8

    first : ℕ
    first = w.held / 2 ^ rest % 256

    same : digits_of (first ∷ []) ++ written rest (bit_and w.held (2 ^ rest - 1)) ≡ written w.fill w.held ++ []
    same =
        let whole : 8 + rest ≡ w.fill = omega arith in
        rw (one_written (w.held / 2 ^ rest), and_mask w.held rest, written-mod rest rest w.held (omega arith), append-nil (written w.fill w.held))
        (sym (written-split 8 rest w.held) ∙ rw whole)

-- nothing is n = 0 digits more; and more after more
pub appended-none : (s : List ℕ) (w : Writer) → Ready w.fill w.held → Appended s s w w 0 []
appended-none s w h =
    record {
      ready = h;
      forward = omega arith;
      place = omega arith;
      out = λ start l. sym (append-nil (out_from start s w));
      front = refl;
      back = refl;
    }

pub appended-more : {old mid new : List ℕ} {w r q : Writer} {n m : ℕ} {ds es : List ℕ} → Appended old mid w r n ds → Appended mid new r q m es
    → Appended old new w q (n + m) (ds ++ es)
appended-more {old} {mid} {new} {w} {r} {q} {n} {m} {ds} {es} one two =
    record {
      ready = two.ready;
      forward = omega (arith, one.forward, two.forward);
      place = omega (arith, one.place, two.place);
      out = λ start l.
          two.out start (omega (arith, one.forward)) ∙ ap (λ (x : List ℕ). x ++ es) (one.out start l) ∙ append_assoc (out_from start old w) ds es;
      front = sym (take-take w.at r.at new one.forward) ∙ ap (take w.at) two.front ∙ take-take w.at r.at mid one.forward ∙ one.front;
      back = two.back ∙ later mid ∙ ap (drop (q.at - r.at)) one.back ∙ sym (later old);
    }
  where
    later : (l : List ℕ) → drop q.at l ≡ drop (q.at - r.at) (drop r.at l)
    later l = let e : q.at ≡ r.at + (q.at - r.at) = omega (arith, two.forward) in ap (λ (k : ℕ). drop k l) e ∙ sym (drop-drop (q.at - r.at) r.at l)

drop-take : (n m : ℕ) (s : List ℕ) → drop n (take (n + m) s) ≡ take m (drop n s)
drop-take zero m s = rw (zero-add m)
drop-take (suc n) m [] = rw (suc-add n m) (sym (take-nil m))
drop-take (suc n) m (x ∷ s) = rw (suc-add n m) (drop-take n m s)

-- another writer's digits, before the place where this one writes or from a start after it
pub before-stays : {old new : List ℕ} {w r : Writer} {n : ℕ} {ds : List ℕ} → Appended old new w r n ds → (start : ℕ) (v : Writer) → v.at ≤ w.at
    → out_from start new v ≡ out_from start old v
unfolding out_from
before-stays {old} {new} {w} {r} {n} {ds} a start v h =
    let same : take v.at new ≡ take v.at old =
    sym (take-take v.at w.at new h) ∙ ap (take v.at) a.front ∙ take-take v.at w.at old h in
    rw same

pub after-stays : {old new : List ℕ} {w r : Writer} {n : ℕ} {ds : List ℕ} → Appended old new w r n ds → length new ≡ length old
    → (start : ℕ) (v : Writer) → r.at ≤ start → start ≤ v.at
    → out_from start new v ≡ out_from start old v
unfolding out_from
after-stays {old} {new} {w} {r} {n} {ds} a l start v h k = rw (part new, part old, later new, later old, a.back)
  where
    part : (s : List ℕ) → drop start (take v.at s) ≡ take (v.at - start) (drop start s)
    part s =
        let e : v.at ≡ start + (v.at - start) = omega arith in
        ap (λ (m : ℕ). drop start (take m s)) e ∙ drop-take start (v.at - start) s

    later : (s : List ℕ) → drop start s ≡ drop (start - r.at) (drop r.at s)
    later s = let e : start ≡ r.at + (start - r.at) = omega arith in ap (λ (m : ℕ). drop m s) e ∙ sym (drop-drop (start - r.at) r.at s)

-- zeros up to the byte's end, then whole bytes out of what is held
pub finished : (old mid new : List ℕ) (w r q : Writer) → Appended old mid w r (zeros_after w.fill) (written (zeros_after w.fill) 0) → Appended mid new r q 0 []
    → q.fill ≡ 0 → Finished old new w q
finished old mid new w r q one two e =
    let n = zeros_after w.fill in
    let all : Appended old new w q (n + 0) (written n 0 ++ []) = appended-more one two in
    record { appended = rw (add-zero n, append-nil (written n 0), written-zero n) at all; none_held = e }
