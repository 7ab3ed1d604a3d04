-- Where a tributary's decision never changes, the verdict cannot tell: if it fits by its own frame, it fits by the frame before and by the frame after too.
use Rattle.std.specs.Prelude.{Option, Some}
use mathlib.Core.Path.{◌≡◌, refl, sym, ◌∙◌, ap}
use mathlib.Core.Bool.{Bool, cond, true, false}
use mathlib.Core.List.{List, [], ◌∷◌, ◌++◌}
use Prim.Native.Nat.{ℕ, zero, suc, ◌+◌, ◌*◌, ◌-◌, ◌≤◌, ◌<◌}
use native.Mathlib.Omega.{arith}
use native.Mathlib.Decide.{dec_lt}
use lib.Dec.{eqb}
use lib.ListN.{length, get_or, take, get_or-append}
use lib.Seq.{get_or-take, get_or-append-add}
use borrow.Author.Tests.{eqb-true}
use Rattle.digits.specs.Digits.{digits_of}
use Rattle.digits.proofs.Laws.{tab-length}
use Rattle.digits.proofs.Sums.{sum-zero}
use Rattle.table.specs.declared.Row.{Row}
use Rattle.table.specs.Table.{level_of}
use Rattle.levels.specs.Sizes.{on_level, frames_of, quarter_of}
use Rattle.levels.specs.Order.{stuffed, decisions, has_negative}
use Rattle.levels.proofs.Columns.{columns}
use Rattle.reading.specs.Notes.{note_of}
use Rattle.promises.proofs.Accepted.{shared}
use Rattle.judge.specs.Readings.{majorities, read_by, own_votes, before_votes, after_votes}
use Rattle.judge.specs.Wrong.{wrong_in}
use Rattle.judge.specs.Verdict.{own_wrong, decided, changes_of, judgement}
use Rattle.judge_promises.specs.Verdicts.{Index, right, late, early, acts_on, Question, verdict, JudgeAccepted, Fits, NeverChanges, NeverChangesAt}
use Rattle.judge_promises.proofs.Readings.{bit_at, Alike, taken-alike, tried, tried-bit}
use Rattle.judge_promises.proofs.Fitting.{four-at, judge-level, answers, judged-places, none-fits}

-- no change in a line: every frame decides as frame 0
one : (t : Bool) → ◌≡◌ {A = ℕ} (cond t 0 1) 0 → t ≡ true
one true e = refl
one false e = absurd (some e)
  where
    some : ◌≡◌ {A = ℕ} 1 0 → ⊥
    some e = omega arith

all_alike : (notes : List ℕ) (j : ℕ) → changes_of notes j ≡ 0 → (f : ℕ) → f < length notes → decisions notes j f ≡ decisions notes j 0
unfolding changes_of
all_alike notes j none zero h = refl
all_alike notes j none (suc f) h =
    let same = one (eqb (decided notes j (suc f)) (decided notes j f)) (sum-zero (length notes - 1) (λ (f : ℕ). cond (eqb (decided notes j (suc f)) (decided notes j f)) 0 1) none f (omega arith)) in
    ap (λ (d : ℕ). eqb d 1) (eqb-true (decided notes j (suc f)) (decided notes j f) same) ∙ all_alike notes j none f (omega arith)

-- then the votes that each reading goes by are alike, the unknown one tried as the decision is
module _ (row : Row) (j earlier : ℕ) (notes : List ℕ) (hj : j < 4) (same : (f : ℕ) → f < length notes → decisions notes j f ≡ decisions notes j 0)
    (nor : has_negative row ≡ true → 0 < length notes → stuffed earlier j ≡ decisions notes j 0) where
  abbrev F : ℕ
  F = length notes

  -- the vote before frame 0 where the level looks at it, else that of frame 0
  abbrev pub standing : Bool
  standing = cond (has_negative row) (stuffed earlier j) (decisions notes j 0)

  abbrev u : ℕ
  u = tried standing

  u-before : has_negative row ≡ true → stuffed u j ≡ stuffed earlier j
  u-before n = tried-bit standing j hj ∙ rw n

  u-bit : 0 < F → stuffed u j ≡ decisions notes j 0
  u-bit h = tried-bit standing j hj ∙ go (has_negative row) refl
    where
      go : (t : Bool) → has_negative row ≡ t → cond t (stuffed earlier j) (decisions notes j 0) ≡ decisions notes j 0
      go true n = nor n h
      go false n = refl

  first_bit : 0 < F → stuffed (cond (has_negative row) earlier u) j ≡ decisions notes j 0
  first_bit h = go (has_negative row) refl
    where
      go : (t : Bool) → has_negative row ≡ t → stuffed (cond t earlier u) j ≡ decisions notes j 0
      go true n = nor n h
      go false n = u-bit h

  by_before : Alike row j F (before_votes row earlier notes u) (own_votes earlier notes)
  by_before = record { before = u-before; own = λ f h. ap (λ (n : ℕ). stuffed n j) (get_or-take F (x ∷ notes) f 0 h) ∙ shifted f h ∙ sym (same f h) }
    where
      x : ℕ
      x = cond (has_negative row) earlier u

      shifted : (f : ℕ) → f < F → bit_at (x ∷ notes) j f ≡ decisions notes j 0
      shifted zero h = first_bit h
      shifted (suc f) h = same f (omega arith)

  last : (f : ℕ) → f ≤ F → 0 < F → bit_at (notes ++ (u ∷ [])) j f ≡ decisions notes j 0
  last f h some =
      elim (dec_lt f F) [
        | yes l ↦ ap (λ (n : ℕ). stuffed n j) (get_or-append notes (u ∷ []) 0 f l) ∙ same f l
        | no l ↦ let end : f ≡ F + 0 = omega arith in ap (bit_at (notes ++ (u ∷ [])) j) end ∙ ap (λ (n : ℕ). stuffed n j) (get_or-append-add notes (u ∷ []) 0 0) ∙ u-bit some
      ]

  by_after : Alike row j F (after_votes notes u) (own_votes earlier notes)
  by_after = record { before = start; own = λ f h. last (suc f) (omega arith) (omega arith) ∙ sym (same f h) }
    where
      start : has_negative row ≡ true → bit_at (notes ++ (u ∷ [])) j 0 ≡ stuffed earlier j
      start n =
          elim (dec_lt 0 F) [
            | yes some ↦ last 0 (omega arith) some ∙ sym (nor n some)
            | no none ↦ let end : 0 ≡ F + 0 = omega arith in ap (bit_at (notes ++ (u ∷ [])) j) end ∙ ap (λ (n : ℕ). stuffed n j) (get_or-append-add notes (u ∷ []) 0 0) ∙ u-before n
          ]

  pub as_own : (index : Index) → Alike row j F (acts_on row index earlier notes u) (own_votes earlier notes)
  as_own right = record { before = λ n. refl; own = λ f h. refl }
  as_own late = by_before
  as_own early = by_after

-- so where the decision never changes, what fits by its own frame fits by the other two as well
pub cannot-tell : (level : ℕ) (q : Question) (j : ℕ) → JudgeAccepted level q → j < 4 → NeverChangesAt level q j → Fits right (verdict level q) j → (index : Index) → Fits index (verdict level q) j
unfolding judgement own_wrong read_by
cannot-tell level q j ok hj never fits index =
    none-fits level row e q ok index (standing row j q.earlier notes hj same nor) j hj (ap (wrong_in q.pattern (digits_of (quarter_of q.buffer j))) taken ∙ none)
  where
    on : (row : Row) × (level_of level ≡ Some row)
    on = judge-level level q ok

    row : Row
    row = on.0

    e : level_of level ≡ Some row
    e = on.1

    notes : List ℕ
    notes = majorities row q.line

    long : length notes ≡ frames_of row (length q.line)
    long = tab-length (frames_of row (length q.line)) 0 (note_of row (digits_of q.line))

    facts : NeverChanges row q (verdict level q) j
    facts = on_row (level_of level) e never
      where
        on_row : (l : Option Row) → l ≡ Some row → on_level l (λ (r : Row). NeverChanges r q (verdict level q) j) ⊥ → NeverChanges row q (verdict level q) j
        on_row l h n = rw h at n

    same : (f : ℕ) → f < length notes → decisions notes j f ≡ decisions notes j 0
    same = all_alike notes j (sym (four-at (changes_of notes) j hj) ∙ rw (answers level q row e ok) at facts.in_the_line)

    nor : has_negative row ≡ true → 0 < length notes → stuffed q.earlier j ≡ decisions notes j 0
    nor n h = facts.nor_before n (omega (arith, long))

    votes : List ℕ
    votes = acts_on row index q.earlier notes (tried (standing row j q.earlier notes hj same nor))

    all-columns : 2 * length q.line ≡ length notes * columns row
    all-columns = judged-places level q row e ok

    taken : read_by row q.line votes j ≡ read_by row q.line (own_votes q.earlier notes) j
    taken = rw all-columns (taken-alike row (shared level row e) j (length notes) hj votes (own_votes q.earlier notes) (digits_of q.line) (as_own row j q.earlier notes hj same nor index))

    none : wrong_in q.pattern (digits_of (quarter_of q.buffer j)) (read_by row q.line (own_votes q.earlier notes) j) ≡ 0
    none = sym (four-at (own_wrong row q.earlier q.line q.pattern q.buffer) j hj) ∙ rw (answers level q row e ok) at fits.none_wrong
