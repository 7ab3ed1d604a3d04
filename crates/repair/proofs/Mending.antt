-- One place more of a line that is being repaired: it stays, or its digit is written and counted. And what a place becomes, where it is known in which frame,
-- set and place of the set it stands.
use mathlib.Core.Path.{◌≡◌, refl, sym, ◌∙◌, ap}
use mathlib.Core.Bool.{Bool, cond, true, false}
use mathlib.Core.List.{List}
use Prim.Native.Nat.{ℕ, zero, suc, ◌+◌, ◌*◌, ◌%◌, ◌≤◌, ◌<◌}
use native.Mathlib.Omega.{arith}
use native.Mathlib.Nat.{zero-add}
use lib.ListN.{length, get_or, set, length-set}
use lib.Seq.{get_or-set_same, get_or-set_other}
use borrow.Author.Tests.{eq-eqb, ne_eqb}
use borrow.Author.Count.{below_more}
use Rattle.digits.specs.Digits.{digits_of, Bytes}
use Rattle.digits.proofs.Laws.{digits-length, digits-binary, tab-at}
use Rattle.table.specs.declared.Row.{Row}
use Rattle.levels.specs.declared.order.Action.{Action}
use Rattle.levels.specs.declared.places.At.{At}
use Rattle.levels.specs.declared.places.Sign.{Sign}
use Rattle.levels.specs.declared.places.Kind.{Kind}
use Rattle.levels.specs.declared.places.Kind.TheVariants.{Justification}
use Rattle.levels.specs.Sizes.{frames_of}
use Rattle.levels.specs.Places.{kind_of}
use Rattle.levels.specs.Order.{stuffed, acts_by, actions, carried}
use Rattle.levels.proofs.Positions.{in_frame, pos-of-sum}
use Rattle.levels.proofs.Judged.{short-line}
use Rattle.reading.specs.Notes.{vote_at, note_of, notes_of}
use Rattle.reading.proofs.NoteBits.{note-decision}
use Rattle.reading.proofs.Inside.{frame-whole, frame-end}
use Rattle.tally.specs.Tally.{number_at, one_more}
use Rattle.tally.proofs.Sums.{sums_same, sums-more, sum-small}
use Rattle.repair.specs.Repair.{repaired_by, repaired_digit, becomes, changes}
use Rattle.repair.specs.Mending.{place_of, Whole, Mended, Acts, Begun}

-- a justification place stays where it carries a digit, and is 1 where it carries none
module _ (sign : Sign) {act asked : Action} {carries : Bool} (came : ℕ) (ea : asked ≡ act) (ec : carries ≡ carried (Justification sign) asked) where
  pub carried-stays : carries ≡ true → came ≡ cond (carried (Justification sign) act) came 1
  carried-stays t = rw (← ea, ← ec, t)

  pub stuffing-one : carries ≡ false → 1 ≡ cond (carried (Justification sign) act) came 1
  stuffing-one t = rw (← ea, ← ec, t)

-- ---- one place more

module _ {row : Row} {earlier : ℕ} {national : Bool} {old : List ℕ} {n : ℕ} {mid sums : List ℕ} (m : Mended row earlier national old n mid sums) where
  pub mended-short : length mid ≤ 65536
  mended-short =
      omega (arith, m.kept, short-line row m.whole.shared (frames_of row (length old)) (length old) m.whole.few m.whole.frames)

  pub sums-few : (k : ℕ) → get_or sums k 0 ≤ n
  sums-few k = rw m.counted (sum-small row (changes row earlier national old) n k)

  -- a place that stays
  pub mended-pass : get_or (digits_of old) n 0 ≡ becomes row earlier national old n → Mended row earlier national old (n + 1) mid sums
  mended-pass e =
      record {
        whole = m.whole;
        kept = m.kept;
        done = below_more (λ (p : ℕ). get_or (digits_of mid) p 0 ≡ becomes row earlier national old p) n m.done (m.rest n (omega arith) ∙ e);
        rest = λ p h. m.rest p (omega arith);
        counted = m.counted ∙ sym (sums_same row (changes row earlier national old) n (rw (eq-eqb (get_or (digits_of old) n 0) (becomes row earlier national old n) e) refl));
        bytes = m.bytes;
      }

  -- a place that changes
  pub mended-put : (d : ℕ) (new more : List ℕ) → d ≡ becomes row earlier national old n → (get_or (digits_of old) n 0 ≡ d → ⊥) → n < 8 * length mid
      → digits_of new ≡ set (digits_of mid) n d → Bytes new → more ≡ one_more sums (number_at row n) → Mended row earlier national old (n + 1) new more
  mended-put d new more e other h put bytes em =
      let long = digits-length mid in
      let same : length (digits_of new) ≡ length (digits_of mid) = rw put (length-set (digits_of mid) n d) in
      let turned : changes row earlier national old n ≡ true =
      rw (ne_eqb (get_or (digits_of old) n 0) (becomes row earlier national old n) (λ q. other (q ∙ sym e))) refl in
      record {
        whole = m.whole;
        kept = omega (arith, m.kept, long, digits-length new, same);
        done = below_more (λ (p : ℕ). get_or (digits_of new) p 0 ≡ becomes row earlier national old p) n
            (λ p l. rw put (get_or-set_other (digits_of mid) n p d 0 (λ q. omega arith) ∙ m.done p l))
            (rw put (get_or-set_same (digits_of mid) n d 0 (omega arith) ∙ e));
        rest = λ p l. rw put (get_or-set_other (digits_of mid) n p d 0 (λ q. omega arith) ∙ m.rest p (omega arith));
        counted = em ∙ rw m.counted (sym (sums-more row (changes row earlier national old) n turned));
        bytes = bytes;
      }

-- places that stay, one after the other
pub mended-over : {row : Row} {earlier : ℕ} {national : Bool} {old mid sums : List ℕ} (k n : ℕ) → Mended row earlier national old n mid sums
    → ((p : ℕ) → n ≤ p → p < n + k → get_or (digits_of old) p 0 ≡ becomes row earlier national old p) → Mended row earlier national old (n + k) mid sums
mended-over zero n m stays = let e : n + 0 ≡ n = omega arith in rw e m
mended-over (suc k) n m stays =
    let e : n + suc k ≡ n + 1 + k = omega arith in
    rw e (mended-over k (n + 1) (mended-pass m (stays n (omega arith) (omega arith))) (λ p l h. stays p (omega arith) (omega arith)))

-- ---- what a place of frame f becomes, by the notes that the frame acts on

module _ {row : Row} {earlier : ℕ} {old : List ℕ} (wh : Whole row old) {f preceding note : ℕ} (a : Acts row earlier old f preceding note) where
  abbrev F : ℕ
  F = frames_of row (length old)

  noted : get_or (notes_of row (digits_of old) F) f 0 ≡ note
  noted = tab-at F 0 (note_of row (digits_of old)) f a.inside ∙ rw (zero-add f) (sym a.own)

  voted : (j : ℕ) → j < 4 → (vote_at row (digits_of old) f j).stuffed ≡ stuffed note j
  voted j h = sym (note-decision row (digits_of old) (digits-binary old) f j h) ∙ ap (λ (k : ℕ). stuffed k j) (sym a.own)

  acted : (j : ℕ) → actions row earlier (notes_of row (digits_of old) F) j f ≡ acts_by row preceding note j
  acted j = rw (noted, ← a.before)

  pub becomes-here : (national : Bool) (s r p : ℕ) → s < row.sets → r < row.set → p ≡ f * row.digits + (s * row.set + r)
      → becomes row earlier national old p
      ≡ repaired_by row national (stuffed note (p % 4)) (acts_by row preceding note (p % 4)) r (get_or (digits_of old) p 0) (kind_of row s r)
  unfolding repaired_digit
  becomes-here national s r p hs hr e = rw (pos-of-sum row wh.shared p f s r e hs hr, voted (p % 4) (omega arith), acted (p % 4))

  pub place_inside : (s r : ℕ) → s < row.sets → r < row.set → f * row.digits + (s * row.set + r) < 8 * length old
  place_inside s r hs hr =
      omega (arith, in_frame row wh.shared s r hs hr, frame-end row wh.shared f (length old) (frame-whole row wh.shared f F (length old) a.inside wh.frames))

-- ---- a place of a set's head, by what the calls there ensure

-- it lies in the line, and no number is too large
pub place-asks : {row : Row} {national : Bool} {preceding note : ℕ} {mid sums : List ℕ} (at : At)
    → Begun row national at.frame preceding note (place_of row at) mid sums → at.set < row.sets → at.place < row.set
    → (place_of row at < 8 * length mid) × (length mid ≤ 65536)
place-asks at b hs hr =
    (omega (arith, place_inside b.mended.whole b.acts at.set at.place hs hr, b.mended.kept), mended-short b.mended)

module _ {row : Row} {national : Bool} {at : At} {preceding note : ℕ} {mid sums : List ℕ} (hs : at.set < row.sets) (hr : at.place < row.set) {came j d : ℕ} {kind : Kind}
    (ec : came ≡ get_or (digits_of mid) (place_of row at) 0) (ek : kind ≡ kind_of row at.set at.place) (ej : j ≡ place_of row at % 4)
    (ed : d ≡ repaired_by row national (stuffed note j) (acts_by row preceding note j) at.place came kind)
    (earlier : ℕ) (old : List ℕ) (a : Acts row earlier old at.frame preceding note) (m : Mended row earlier national old (place_of row at) mid sums) where
  as-came : came ≡ get_or (digits_of old) (place_of row at) 0
  as-came = ec ∙ m.rest (place_of row at) (omega arith)

  right : d ≡ becomes row earlier national old (place_of row at)
  right = ed ∙ rw (ej, ek, as-came) (sym (becomes-here m.whole a national at.set at.place (place_of row at) hs hr refl))

  pub place-stays : d ≡ came → Mended row earlier national old (place_of row at + 1) mid sums
  place-stays e = mended-pass m (sym as-came ∙ sym e ∙ right)

  pub place-changes : (d ≡ came → ⊥) → (new more : List ℕ) → digits_of new ≡ set (digits_of mid) (place_of row at) d → Bytes new
      → more ≡ one_more sums (number_at row (place_of row at)) → Mended row earlier national old (place_of row at + 1) new more
  place-changes other new more put bytes em =
      mended-put m d new more right (λ q. other (sym q ∙ sym as-came))
      (omega (arith, m.kept, place_inside m.whole a at.set at.place hs hr)) put bytes em
