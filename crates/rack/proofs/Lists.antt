-- What the calls' statements say of the whole list, on each way through the code: where the list refuses, where the record's own call refuses, and
-- where it does not. The proofs of the three calls end with these.
use mathlib.Core.Path.{◌≡◌, refl, sym, ap, subst, ◌∙◌}
use mathlib.Core.Bool.{Bool, cond, true, false, true≢false}
use mathlib.Core.List.{List, [], ◌∷◌}
use Prim.Native.Nat.{ℕ, zero, suc, ◌+◌, ◌<◌, ◌≤◌}
use lib.Dec.{eqb, leb, ltb}
use lib.ListN.{length, get_or, set, take}
use lib.Seq.{set-get_or, length-take-le}
use native.Mathlib.Omega.{arith}
use native.Mathlib.Numerals.{add-one}
use borrow.Author.Tests.{leb-false, ltb-false}
use Rattle.digits.specs.Sums.{sum_to}
use Rattle.digits.proofs.Tests.{cond-told}
use Rattle.receiver.specs.Feed.{fresh_state, fresh_of}
use Rattle.records.specs.declared.record.Record.{Record}
use Rattle.records.specs.declared.record.Kept.{Kept}
use Rattle.receiver.specs.Numbers.{fed_answer}
use Rattle.rack.specs.Rack.{kept_reset}
use Rattle.records.specs.Record.{record_of, fed_record, kept_after, is_aligned}
use Rattle.rack.specs.Rack.{at, refusal_by, list_by, FeedMet, ResetMet, fed_alone, aligned_of, AlignedMet}
use Rattle.records.specs.Rule.{list_refusal, made_of, none_taken, count_refusal, counted_to}

-- the record that `at` gives past the end
abbrev pub blank : Record
blank = record_of (fresh_state 0)

-- a list that does not refuse has the line
pub within : (n line : ℕ) → eqb (list_refusal n line) 0 ≡ true → line < n
unfolding list_refusal
within n line =
    cond-told (λ (v : ℕ). eqb v 0 ≡ true → line < n) (leb n line) (λ _ h. absurd (true≢false (sym h))) (λ e _. leb-false n line e)

-- and it has 64 lines at the most
pub few-lines : (n line : ℕ) → eqb (list_refusal n line) 0 ≡ true → n ≤ 64
unfolding list_refusal
few-lines n line =
    cond-told (λ (v : ℕ). eqb v 0 ≡ true → n ≤ 64) (leb n line) (λ _ h. absurd (true≢false (sym h)))
    (λ _. cond-told (λ (v : ℕ). eqb v 0 ≡ true → n ≤ 64) (ltb 64 n) (λ _ h. absurd (true≢false (sym h))) (λ e _. ltb-false 64 n e))

-- ---- a call on one record whose refusal is found together with the list's
module _ (ys : List Record) (line : ℕ) (alone : Kept) where
  abbrev number : ℕ
  number = refusal_by (length ys) line alone

  -- not refused, so not by the list
  pub list-accepts : eqb number 0 ≡ true → eqb (list_refusal (length ys) line) 0 ≡ true
  list-accepts = cond-told (λ (v : ℕ). eqb v 0 ≡ true → eqb (list_refusal (length ys) line) 0 ≡ true) (eqb (list_refusal (length ys) line) 0) (λ e _. e) (λ _ h. h)

  pub alone-accepts : eqb number 0 ≡ true → eqb alone.refusal 0 ≡ true
  alone-accepts h = subst (λ (t : Bool). eqb (cond t alone.refusal (list_refusal (length ys) line)) 0 ≡ true) (list-accepts h) h

  pub list_set : eqb number 0 ≡ true → list_by ys line alone ≡ set ys line alone.kept
  list_set h = rw (list-accepts h)

  -- refused, and the call on the record alone leaves a refused record as it is
  pub list-stays : (eqb alone.refusal 0 ≡ false → alone.kept ≡ at ys line) → eqb number 0 ≡ false → list_by ys line alone ≡ ys
  list-stays kept =
      cond-told (λ (v : ℕ). eqb v 0 ≡ false → list_by ys line alone ≡ ys) (eqb (list_refusal (length ys) line) 0)
      (λ e h. let same : alone.kept ≡ at ys line = kept h in rw (e, same) (set-get_or ys line blank)) (λ e h. rw e)

-- ---- a reset
module _ (ys : List Record) (line level : ℕ) (r : Kept) (found : r ≡ made_of (length ys) line level) where
  abbrev alone : Kept
  alone = kept_reset level (at ys line)

  pub reset-refused : eqb r.refusal 0 ≡ false → ResetMet ys line level r.refusal ys
  reset-refused h =
      let e : r.refusal ≡ refusal_by (length ys) line alone = ap (λ (k : Kept). k.refusal) found in
      (e, sym (list-stays ys line alone (λ no. rw no) (subst (λ (v : ℕ). eqb v 0 ≡ false) e h)))

  pub reset-line : eqb r.refusal 0 ≡ true → line < length ys
  reset-line h =
      let e : r.refusal ≡ refusal_by (length ys) line alone = ap (λ (k : Kept). k.refusal) found in
      within (length ys) line (list-accepts ys line alone (subst (λ (v : ℕ). eqb v 0 ≡ true) e h))

  pub reset-few : eqb r.refusal 0 ≡ true → length ys ≤ 64
  reset-few h =
      let e : r.refusal ≡ refusal_by (length ys) line alone = ap (λ (k : Kept). k.refusal) found in
      few-lines (length ys) line (list-accepts ys line alone (subst (λ (v : ℕ). eqb v 0 ≡ true) e h))

  pub reset-done : eqb r.refusal 0 ≡ true → ResetMet ys line level r.refusal (set ys line r.kept)
  reset-done h =
      let e : r.refusal ≡ refusal_by (length ys) line alone = ap (λ (k : Kept). k.refusal) found in
      let h' : eqb (refusal_by (length ys) line alone) 0 ≡ true = subst (λ (v : ℕ). eqb v 0 ≡ true) e h in
      let k : r.kept ≡ alone.kept = ap (λ (k : Kept). k.kept) found ∙ sym (kept_fresh h') in
      (e, ap (λ (x : Record). set ys line x) k ∙ sym (list_set ys line alone h'))
    where
      kept_fresh : eqb (refusal_by (length ys) line alone) 0 ≡ true → alone.kept ≡ record_of (fresh_of level).state
      kept_fresh h = rw (alone-accepts ys line alone h)

-- ---- a feed

-- a line of the list is the same record whatever would stand past the end
pub here : (ys : List Record) (line : ℕ) (d : Record) → line < length ys → get_or ys line d ≡ at ys line
here [] line d h = let none : ⊥ = omega (arith, h) in absurd none
here (y ∷ ys) zero d h = refl
here (y ∷ ys) (suc line) d h = here ys line d (omega (arith, h))

pub fed-here : (ys : List Record) (line : ℕ) (d : Record) (piece : List ℕ) (first count : ℕ) (r : Kept) (w : List ℕ) → line < length ys
    → (r ≡ kept_after (fed_record (get_or ys line d) piece first count) (get_or ys line d)) × (w ≡ fed_answer (fed_record (get_or ys line d) piece first count))
    → (r ≡ fed_alone ys line piece first count) × (w ≡ fed_answer (fed_record (at ys line) piece first count))
fed-here ys line d piece first count r w h is = rw (here ys line d h) at is

module _ (ys : List Record) (line : ℕ) (piece : List ℕ) (first count : ℕ) where
  abbrev fed : Kept
  fed = fed_alone ys line piece first count

  pub feed-refused : (s : ℕ) (w : List ℕ) → eqb (list_refusal (length ys) line) 0 ≡ false → s ≡ list_refusal (length ys) line → w ≡ none_taken
      → FeedMet ys line piece first count s ys w
  feed-refused s w h es ew = rw h (es, refl, ew)

  pub feed-done : (r : Kept) (w : List ℕ) → eqb (list_refusal (length ys) line) 0 ≡ true → r ≡ fed → w ≡ fed_answer (fed_record (at ys line) piece first count)
      → FeedMet ys line piece first count r.refusal (set ys line r.kept) w
  feed-done r w h er ew = rw h (ap (λ (k : Kept). k.refusal) er, ap (λ (k : Kept). set ys line k.kept) er, ew)

  pub feed-alone-refused : (r : Kept) (w : List ℕ) → eqb (list_refusal (length ys) line) 0 ≡ true → eqb r.refusal 0 ≡ false → r ≡ fed
      → w ≡ fed_answer (fed_record (at ys line) piece first count) → FeedMet ys line piece first count r.refusal ys w
  feed-alone-refused r w h off er ew =
      let e : r.refusal ≡ refusal_by (length ys) line fed = rw h (ap (λ (k : Kept). k.refusal) er) in
      (e, sym (list-stays ys line fed (λ refused. rw refused) (subst (λ (v : ℕ). eqb v 0 ≡ false) e off)), rw h ew)

-- ---- a count
pub counted-in : (n : ℕ) → (counted_to n ≤ n) × (counted_to n ≤ 64)
unfolding counted_to
counted-in n = cond-told (λ (m : ℕ). (m ≤ n) × (m ≤ 64)) (ltb 64 n) (λ _. (omega arith, omega arith)) (λ e. (omega arith, ltb-false 64 n e))

-- so many records are looked at
pub looked-at : (ys : List Record) (m : ℕ) → m ≡ counted_to (length ys) → length (take m ys) ≡ m
looked-at ys m e = length-take-le m ys (omega (arith, counted-in (length ys), e))

bit-most : (t : Bool) → cond t 1 0 ≤ 1
bit-most true = omega arith
bit-most false = omega arith

-- no more than the records looked at
pub aligned-most : (ys : List Record) (n : ℕ) → aligned_of ys n ≤ n
unfolding sum_to
aligned-most ys zero = omega arith
aligned-most ys (suc n) = omega (arith, aligned-most ys n, bit-most (is_aligned (at ys n).mode))

pub aligned-more : (ys : List Record) (i s : ℕ) → s ≡ aligned_of ys i + cond (is_aligned (at ys i).mode) 1 0 → s ≡ aligned_of ys (i + 1)
unfolding sum_to
aligned-more ys i s e = rw (add-one i) e

-- the same, with the record as the code reads it
pub counted-more : (ys : List Record) (i : ℕ) (d : Record) → i < length ys → (n s : ℕ) → n ≡ aligned_of ys i → s ≡ n + cond (is_aligned (get_or ys i d).mode) 1 0
    → s ≡ aligned_of ys (i + 1)
counted-more ys i d h n s e is = aligned-more ys i s (rw (here ys i d h, e) at is)

pub aligned-done : (ys : List Record) (m s : ℕ) (w : List ℕ) → m ≡ counted_to (length ys) → s ≡ count_refusal (length ys) → w ≡ aligned_of ys m ∷ [] → AlignedMet ys s w
unfolding counted_to count_refusal sum_to
aligned-done ys m s w em es ew = (es, ew ∙ ap (λ (n : ℕ). n ∷ []) (ap (aligned_of ys) em ∙ by_size))
  where
    by_size : aligned_of ys (counted_to (length ys)) ≡ cond (eqb (count_refusal (length ys)) 0) (aligned_of ys (length ys)) 0
    by_size = cond-told (λ (m : ℕ). aligned_of ys m ≡ cond (eqb (count_refusal (length ys)) 0) (aligned_of ys (length ys)) 0) (ltb 64 (length ys)) (λ e. rw e) (λ e. rw e)
