-- Four writers, each lent its quarter of one buffer: what one puts out leaves the other quarters as they were, so that four in turn have put
-- out four lists; and digits more after digits more.
use mathlib.Core.Path.{◌≡◌, refl, sym, ap, ◌∙◌}
use mathlib.Core.Logic.{◌≢◌}
use mathlib.Core.List.{List, [], ◌∷◌, ◌++◌, append_assoc, append-nil}
use Prim.Native.Nat.{ℕ, zero, suc, ◌+◌, ◌-◌, ◌*◌, ◌≤◌, ◌<◌}
use native.Mathlib.Omega.{arith}
use native.Mathlib.Decide.{dec_lt}
use native.Mathlib.Nat.{zero-add, suc-add, suc-mul, mul-le-mul_right, add-sub_cancel_left}
use lib.ListN.{length, take, drop, length-append}
use lib.Seq.{take-take, take-nil, drop-drop, length-take-le}
use borrow.Rule.Slice.PartMut.{mid_of, post_of, put_mid, mid_len, take_put, drop_put}
use Rattle.digits.proofs.Lists.{of_four, part_at}
use Rattle.words.specs.declared.Writer.{Writer}
use Rattle.words.specs.Words.{Ready, out_from, Appended}
use Rattle.unweave.specs.declared.Writers.{Writers}
use Rattle.unweave.specs.Quarters.{part_of, writer_of, Roomy, Moved, Put, Grown}

drop-take : (n m : ℕ) (s : List ℕ) → drop n (take (n + m) s) ≡ take m (drop n s)
drop-take zero m s = rw (zero-add m)
drop-take (suc n) m [] = rw (suc-add n m) (sym (take-nil m))
drop-take (suc n) m (x ∷ s) = rw (suc-add n m) (drop-take n m s)

-- part j of a buffer is lent
module _ (q j : ℕ) (old : List ℕ) (jh : j < 4) (room : 4 * q ≤ length old) where
  pub part-inside : j * q + q ≤ length old
  part-inside = omega (arith, suc-mul j q, mul-le-mul_right {m = suc j} {n = 4} q jh)

  -- what is lent is the quarter
  pub part-lent : mid_of (j * q) (j * q + q - j * q) old ≡ part_of q old j
  part-lent = rw (add-sub_cancel_left (j * q) q)

  pub part-size : length (mid_of (j * q) (j * q + q - j * q) old) ≡ q
  part-size = mid_len (j * q) (j * q + q) old part-inside ∙ add-sub_cancel_left (j * q) q

  -- it comes back as ys
  module _ (ys : List ℕ) (size : length ys ≡ q) where
    abbrev new : List ℕ
    new = put_mid (j * q) (j * q + q - j * q) old ys

    pub part-back : part_of q new j ≡ ys
    part-back = part_at (take (j * q) old) ys (post_of (j * q) (j * q + q - j * q) old) (j * q) q (length-take-le (j * q) old (omega (arith, part-inside))) size

    before : (k : ℕ) → k < j → part_of q new k ≡ part_of q old k
    before k h =
        let less : k * q + q ≤ j * q = omega (arith, suc-mul k q, mul-le-mul_right {m = suc k} {n = j} q h) in
        let same : take (k * q + q) new ≡ take (k * q + q) old =
        sym (take-take (k * q + q) (j * q) new less)
        ∙ ap (take (k * q + q)) (take_put (j * q) (j * q + q - j * q) old ys (omega (arith, part-inside)))
        ∙ take-take (k * q + q) (j * q) old less in
        sym (drop-take (k * q) q new) ∙ ap (drop (k * q)) same ∙ drop-take (k * q) q old

    after : (k : ℕ) → j < k → part_of q new k ≡ part_of q old k
    after k h =
        let more : j * q + q ≤ k * q = omega (arith, suc-mul j q, mul-le-mul_right {m = suc j} {n = k} q h) in
        let there : k * q ≡ (j * q + q) + (k * q - (j * q + q)) = omega arith in
        let later : (l : List ℕ) → drop (k * q) l ≡ drop (k * q - (j * q + q)) (drop (j * q + q) l) =
        λ l. ap (λ (m : ℕ). drop m l) there ∙ sym (drop-drop (k * q - (j * q + q)) (j * q + q) l) in
        let same : drop (j * q + q) new ≡ drop (j * q + q) old =
        drop_put (j * q) (j * q + q) old ys (omega arith) part-inside (size ∙ sym (add-sub_cancel_left (j * q) q)) in
        ap (take q) (later new ∙ ap (drop (k * q - (j * q + q))) same ∙ sym (later old))

    pub part-others : (k : ℕ) → k ≢ j → part_of q new k ≡ part_of q old k
    part-others k other =
        elim (dec_lt k j) [
          | yes h ↦ before k h
          | no h ↦ after k (more h)
        ]
      where
        more : ((k < j) → ⊥) → j < k
        more h = omega (arith, other)

    -- a writer put digits into what was lent
    module _ (w r : Writer) (n : ℕ) (ds : List ℕ) (many : length ds ≡ n) (a : Appended (mid_of (j * q) (j * q + q - j * q) old) ys w r n ds) where
      pub part-put : Put q j old new w r ds
      part-put =
          record {
            moved = record { ready = a.ready; place = omega (arith, a.place) };
            out = ap (λ (s : List ℕ). out_from 0 s r) part-back ∙ a.out 0 (omega arith) ∙ ap (λ (s : List ℕ). out_from 0 s w ++ ds) part-lent;
            others = λ k _ other. part-others k other;
          }

-- none
pub put-none : (q j : ℕ) (s : List ℕ) (w : Writer) → Ready w.fill w.held → Put q j s s w w []
put-none q j s w ready =
    record {
      moved = record { ready = ready; place = omega arith };
      out = sym (append-nil (out_from 0 (part_of q s j) w));
      others = λ k _ _. refl;
    }

pub put_as : {q j : ℕ} {old new : List ℕ} {w r : Writer} {ds es : List ℕ} → Put q j old new w r ds → ds ≡ es → Put q j old new w r es
put_as p e = rw (← e) p

-- four in turn
module _ {q : ℕ} {l₀ l₁ l₂ l₃ l₄ : List ℕ} {w r : Writers} (more : ℕ → List ℕ) (A : Put q 0 l₀ l₁ w.a r.a (more 0))
    (B : Put q 1 l₁ l₂ w.b r.b (more 1)) (C : Put q 2 l₂ l₃ w.c r.c (more 2)) (D : Put q 3 l₃ l₄ w.d r.d (more 3)) where
  -- a quarter stays in the turn of another
  apart : (k j : ℕ) {l l' : List ℕ} {v v' : Writer} {ds : List ℕ} → Put q j l l' v v' ds → k < 4 → k ≢ j → part_of q l' k ≡ part_of q l k
  apart k j p h other = p.others k h other

  stays : (v : Writer) {s t : List ℕ} → s ≡ t → out_from 0 s v ≡ out_from 0 t v
  stays v e = ap (λ (s : List ℕ). out_from 0 s v) e

  then : (v : Writer) (ds : List ℕ) {s t : List ℕ} → s ≡ t → out_from 0 s v ++ ds ≡ out_from 0 t v ++ ds
  then v ds e = ap (λ (s : List ℕ). out_from 0 s v ++ ds) e

  out-a : out_from 0 (part_of q l₄ 0) r.a ≡ out_from 0 (part_of q l₀ 0) w.a ++ more 0
  out-a =
      stays r.a (apart 0 3 D (omega arith) (λ e. omega arith) ∙ apart 0 2 C (omega arith) (λ e. omega arith) ∙ apart 0 1 B (omega arith) (λ e. omega arith))
      ∙ A.out

  out-b : out_from 0 (part_of q l₄ 1) r.b ≡ out_from 0 (part_of q l₀ 1) w.b ++ more 1
  out-b =
      stays r.b (apart 1 3 D (omega arith) (λ e. omega arith) ∙ apart 1 2 C (omega arith) (λ e. omega arith))
      ∙ B.out
      ∙ then w.b (more 1) (apart 1 0 A (omega arith) (λ e. omega arith))

  out-c : out_from 0 (part_of q l₄ 2) r.c ≡ out_from 0 (part_of q l₀ 2) w.c ++ more 2
  out-c =
      stays r.c (apart 2 3 D (omega arith) (λ e. omega arith))
      ∙ C.out
      ∙ then w.c (more 2) (apart 2 1 B (omega arith) (λ e. omega arith) ∙ apart 2 0 A (omega arith) (λ e. omega arith))

  out-d : out_from 0 (part_of q l₄ 3) r.d ≡ out_from 0 (part_of q l₀ 3) w.d ++ more 3
  out-d =
      D.out
      ∙ then w.d (more 3) (apart 3 2 C (omega arith) (λ e. omega arith) ∙ apart 3 1 B (omega arith) (λ e. omega arith) ∙ apart 3 0 A (omega arith) (λ e. omega arith))

  pub grown : Grown q l₀ l₄ w r more
  grown =
      record {
        moved = of_four (λ (j : ℕ). Moved (writer_of w j) (writer_of r j) (more j)) A.moved B.moved C.moved D.moved;
        out = of_four (λ (j : ℕ). out_from 0 (part_of q l₄ j) (writer_of r j) ≡ out_from 0 (part_of q l₀ j) (writer_of w j) ++ more j) out-a out-b out-c out-d;
      }

-- less room is room, and room for more is left after digits that are put out
pub roomy-less : {q : ℕ} {m : ℕ → ℕ} {w : Writers} (n : ℕ → ℕ) → Roomy q m w → ((j : ℕ) → j < 4 → n j ≤ m j) → Roomy q n w
roomy-less n h l j jh = record { ready = (h j jh).ready; room = omega (arith, (h j jh).room, l j jh) }

pub roomy_after : {q : ℕ} {old new : List ℕ} {w r : Writers} {more : ℕ → List ℕ} {m : ℕ → ℕ} (n : ℕ → ℕ) → Grown q old new w r more → Roomy q m w
    → ((j : ℕ) → j < 4 → length (more j) + n j ≤ m j) → Roomy q n r
roomy_after n g h l j jh = record { ready = (g.moved j jh).ready; room = omega (arith, (h j jh).room, (g.moved j jh).place, l j jh) }

pub grown-as : {q : ℕ} {old new : List ℕ} {w r : Writers} {more : ℕ → List ℕ} (other : ℕ → List ℕ) → Grown q old new w r more
    → ((j : ℕ) → j < 4 → more j ≡ other j) → Grown q old new w r other
grown-as {q} {old} {new} {w} {r} other g same =
    record {
      moved = λ j h. rw (← same j h) (g.moved j h);
      out = λ j h. rw (← same j h) (g.out j h);
    }

pub grown-none : (q : ℕ) (s : List ℕ) (w : Writers) → ((j : ℕ) → j < 4 → Ready (writer_of w j).fill (writer_of w j).held) → Grown q s s w w (λ (j : ℕ). [])
grown-none q s w ready =
    record {
      moved = λ j h. record { ready = ready j h; place = omega arith };
      out = λ j h. sym (append-nil (out_from 0 (part_of q s j) (writer_of w j)));
    }

pub grown-more : {q : ℕ} {old mid new : List ℕ} {w r v : Writers} {more other : ℕ → List ℕ} → Grown q old mid w r more → Grown q mid new r v other
    → Grown q old new w v (λ (j : ℕ). more j ++ other j)
grown-more {q} {old} {mid} {new} {w} {r} {v} {more} {other} one two =
    record {
      moved = λ j h.
          record { ready = (two.moved j h).ready; place = omega (arith, (one.moved j h).place, (two.moved j h).place, length-append (more j) (other j)) };
      out = λ j h.
          two.out j h ∙ ap (λ (l : List ℕ). l ++ other j) (one.out j h) ∙ append_assoc (out_from 0 (part_of q old j) (writer_of w j)) (more j) (other j);
    }
