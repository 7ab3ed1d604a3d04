-- What follows from the statements of the comparison of two lines and of a stretch of them, for any level number and any bytes. Of two lines: a refusal
-- leaves the list, the fifteen sums add up to all differing digits, the list shows the differing digits up to its length and no other, equal lines have
-- none, and exchanged lines have the same. Of stretches: the whole line is the comparison, and two that meet are one. And the statements guard the calls:
-- no second answer, what is ensured is the statement, and nothing is asked.
use Rattle.std.specs.Prelude.{Option, Some, None}
use mathlib.Core.Path.{◌≡◌, refl, sym, ◌∙◌, ap}
use mathlib.Core.Bool.{Bool, cond, true, false, ◌&&◌}
use mathlib.Core.List.{List}
use Prim.Native.Nat.{ℕ, zero, suc, ◌+◌, ◌*◌, ◌<◌}
use native.Mathlib.Omega.{arith}
use lib.Dec.{eqb}
use lib.ListN.{length, get_or, replicate}
use contract.Lifetimes.{Lfts}
use denote.Triple.Clauses.{AtExit}
use borrow.Fn.World.{ArgsD, ResD}
use borrow.Author.Tests.{eqb-true, le-leb, lt-leb, eq-eqb}
use Rattle.digits.specs.Sums.{sum_to}
use Rattle.digits.proofs.Sums.{sum-all}
use Rattle.table.specs.declared.Row.{Row}
use Rattle.table.specs.Table.{level_of}
use Rattle.levels.specs.Sizes.{on_level}
use Rattle.levels.proofs.Choice.{cond-by}
use Rattle.levels.proofs.Rows.{shared-row}
use Rattle.tally.specs.Tally.{number_at, all_of, differ_at}
use Rattle.tally.proofs.Sums.{sums_at, sums-agree, all-agree}
use Rattle.differing.specs.declared.Compared.{Compared}
use Rattle.differing.specs.Differing.{counted_on, listed_on}
use Rattle.differing.specs.Promises.{Lists}
use Rattle.differing.proofs.Lists.{lists-all}
use Rattle.compare.specs.declared.lines.Stretch.{Stretch}
use Rattle.compare.specs.Compare.{fault_in, refused_by}
use Rattle.compare.specs.Lines.{lines_refusal, lines_of, lines_listed, LinesMet, differ_from, stretch_on, StretchAnswered}
use Rattle.compare.proofs.TwoLines.{lines_fit}
use Rattle.compare.proofs.Answers.{AddsUp, refused-adds, counted-adds, nothing-counted, counted-turned}
use Rattle.compare.specs.contracts.lines.compare_lines as lines
use Rattle.compare.proofs.lines.compare_lines.Reads as lines-reads
use Rattle.compare.specs.contracts.lines.compare_stretch as stretch
use Rattle.compare.proofs.lines.compare_stretch.Reads as stretch-reads

-- ---- no second answer, it is what the calls ensure, and they ask nothing

pub lines-one-answer : (level : ℕ) (one other lent : List ℕ) (a b : Compared) (l m : List ℕ) → LinesMet level one other lent a l → LinesMet level one other lent b m
    → (a ≡ b) × (l ≡ m)
lines-one-answer level one other lent a b l m x y = (x.0 ∙ sym y.0, x.1 ∙ sym y.1)

pub lines-met : (κs : Lfts 3) (a : ArgsD lines.signature κs) (r : ResD lines.signature κs) (e : AtExit lines.ended κs) → lines-reads.Learnt κs a r e
    → LinesMet a.0 a.1.0.now a.1.1.0.now a.1.1.1.0.now r e.1.1.1.0.now
lines-met κs a r e met = met

pub lines-asks-nothing : (κs : Lfts 3) (a : ArgsD lines.signature κs) → lines-reads.Asked κs a
lines-asks-nothing κs a = tt

pub stretch-one-answer : (level : ℕ) (one other : List ℕ) (first count : ℕ) (a b : Stretch) → StretchAnswered level one other first count a
    → StretchAnswered level one other first count b → a ≡ b
stretch-one-answer level one other first count a b x y = x ∙ sym y

pub stretch-met : (κs : Lfts 2) (a : ArgsD stretch.signature κs) (r : ResD stretch.signature κs) (e : AtExit stretch.ended κs) → stretch-reads.Learnt κs a r e
    → StretchAnswered a.0 a.1.0.now a.1.1.0.now a.1.1.1.0 a.1.1.1.1.0 r
stretch-met κs a r e met = met

pub stretch-asks-nothing : (κs : Lfts 2) (a : ArgsD stretch.signature κs) → stretch-reads.Asked κs a
stretch-asks-nothing κs a = tt

-- ---- two lines: accepted or refused

pub record LinesWell (level : ℕ) (one other lent : List ℕ) : Type 0 where
  pub row : Row
  pub has_row : level_of level ≡ Some row
  pub fits : lines_refusal row (length one) (length other) ≡ 0
  pub answer_is : lines_of level one other ≡ counted_on row one other
  pub list_is : lines_listed level one other lent ≡ listed_on row one other

nothing-of-same : (row : Row) (one other : List ℕ) → one ≡ other
    → (counted_on row one other ≡ refused_by (fault_in 0 0 0)) × (listed_on row one other ≡ replicate 128 0)
nothing-of-same row one other same = rw same (nothing-counted row other)

module _ (level : ℕ) (one other lent : List ℕ) where
  no_level : ◌≡◌ {A = ℕ} 1 0 → ⊥
  no_level e = omega arith

  two : ◌≡◌ {A = ℕ} 2 0 → ⊥
  two e = omega arith

  abbrev answer-on : Row → Bool → Compared
  answer-on row t = cond t (counted_on row one other) (refused_by (fault_in 2 0 0))

  abbrev fit : Row → Bool
  fit row = eqb (lines_refusal row (length one) (length other)) 0

  lines-well : (lines_of level one other).refusal ≡ 0 → LinesWell level one other lent
  unfolding lines_of lines_listed
  lines-well = go (level_of level) refl
    where
      on : (row : Row) (t : Bool) → level_of level ≡ Some row → fit row ≡ t → (answer-on row t).refusal ≡ 0 → LinesWell level one other lent
      on row true has x e =
          record { row = row; has_row = has; fits = eqb-true _ 0 x; answer_is = rw (has, x) refl; list_is = rw (has, x) refl }
      on row false has x e = absurd (two e)

      go : (v : Option Row) → level_of level ≡ v → (on_level v (λ (row : Row). answer-on row (fit row)) (refused_by (fault_in 1 0 0))).refusal ≡ 0
          → LinesWell level one other lent
      go (Some row) has e = on row (fit row) has refl e
      go None has e = absurd (no_level e)

  module _ (a : Compared) (l : List ℕ) (met : LinesMet level one other lent a l) where
    well : a.refusal ≡ 0 → LinesWell level one other lent
    well z = lines-well (sym (ap (λ (v : Compared). v.refusal) met.0) ∙ z)

    pub refused-lines-leave-the-list : (a.refusal ≡ 0 → ⊥) → l ≡ lent
    unfolding lines_of lines_listed counted_on
    refused-lines-leave-the-list bad = met.1 ∙ go (level_of level) refl
      where
        on : (row : Row) (t : Bool) → level_of level ≡ Some row → fit row ≡ t → cond t (listed_on row one other) lent ≡ lent
        on row true has x = absurd (bad (ap (λ (v : Compared). v.refusal) met.0 ∙ rw (has, x) refl))
        on row false has x = refl

        go : (v : Option Row) → level_of level ≡ v → on_level v (λ (row : Row). cond (fit row) (listed_on row one other) lent) lent ≡ lent
        go (Some row) has = on row (fit row) has refl
        go None has = refl

    -- the fifteen add up to all differing digits, refused or not
    pub lines-add-up : AddsUp a
    unfolding lines_of
    lines-add-up = rw met.0 (by_level (level_of level))
      where
        by_level : (v : Option Row) → AddsUp (on_level v (λ (row : Row). answer-on row (fit row)) (refused_by (fault_in 1 0 0)))
        by_level (Some row) = cond-by AddsUp (fit row) (counted-adds row one other) (refused-adds (fault_in 2 0 0))
        by_level None = refused-adds (fault_in 1 0 0)

    -- the list shows the differing digits up to its length, and no other
    pub lines-list-shows : a.refusal ≡ 0 → (row : Row) → level_of level ≡ Some row → Lists row (differ_at one other) (8 * length one) a.listed l
    unfolding counted_on
    lines-list-shows z row has =
        let w = well z in
        let same : Some row ≡ Some w.row = sym has ∙ w.has_row in
        let is_row : row ≡ w.row = ap (λ (v : Option Row). on_level v (λ (r : Row). r) row) same in
        let sh = shared-row level row has in
        rw (met.0, met.1, w.answer_is, w.list_is, ← is_row)
        (lists-all row (omega (arith, sh.counted, sh.later_set)) (differ_at one other) (8 * length one))

    -- equal lines have no differing digit
    pub same-lines-zeros : a.refusal ≡ 0 → one ≡ other → (a ≡ refused_by (fault_in 0 0 0)) × (l ≡ replicate 128 0)
    same-lines-zeros z same =
        let w = well z in
        let none = nothing-of-same w.row one other same in
        (met.0 ∙ w.answer_is ∙ none.0, met.1 ∙ w.list_is ∙ none.1)

-- exchanged lines have the same sums and the same list
pub exchanged-lines-same : (level : ℕ) (one other lent : List ℕ) (a b : Compared) (l m : List ℕ) → LinesMet level one other lent a l
    → LinesMet level other one lent b m → a.refusal ≡ 0 → (a ≡ b) × (l ≡ m)
unfolding lines_of lines_listed lines_refusal
exchanged-lines-same level one other lent a b l m met back z =
    let w = well level one other lent a l met z in
    let f = lines_fit w.row (shared-row level w.row w.has_row) one other w.fits in
    let both = counted-turned w.row one other f.same_length in
    let there : lines_refusal w.row (length other) (length one) ≡ 0 = rw (← f.same_length) (rw (← f.same_length) at w.fits) in
    let is : (lines_of level other one ≡ counted_on w.row other one) × (lines_listed level other one lent ≡ listed_on w.row other one)
    = rw (w.has_row, eq-eqb _ 0 there) (refl, refl) in
    (met.0 ∙ w.answer_is ∙ both.0 ∙ sym (back.0 ∙ is.0), met.1 ∙ w.list_is ∙ both.1 ∙ sym (back.1 ∙ is.1))

-- ---- a stretch

-- from place 0 on the whole line is the comparison: the same sums, and as many in all
pub whole-stretch-is-the-comparison : (row : Row) (one other : List ℕ)
    → ((stretch_on row one other 0 (8 * length one)).sums ≡ (counted_on row one other).sums) × ((stretch_on row one other 0 (8 * length one)).all ≡ (counted_on row one other).all)
unfolding stretch_on counted_on
whole-stretch-is-the-comparison row one other =
    let n = 8 * length one in
    let from-none : 0 + n ≡ n = omega arith in
    let agree : (p : ℕ) → p < n → differ_from one other 0 p ≡ differ_at one other p = λ p _. rw (le-leb 0 p (omega arith)) refl in
    rw from-none (sums-agree row (differ_from one other 0) (differ_at one other) n agree, all-agree (differ_from one other 0) (differ_at one other) n agree)

module _ (row : Row) (one other : List ℕ) (first a : ℕ) where
  -- of those that another test picks
  abbrev some_of : (ℕ → Bool) → ℕ → ℕ → Bool
  some_of pick from p = differ_from one other from p && pick p

  none_yet : (pick : ℕ → Bool) (from : ℕ) → all_of (some_of pick from) from ≡ 0
  none_yet pick from =
      let none : from * 0 ≡ 0 = omega arith in
      sum-all from 0 (λ (p : ℕ). cond (some_of pick from p) 1 0) (λ p h. rw (lt-leb from p h) refl) ∙ none

  meeting : (pick : ℕ → Bool) (b : ℕ)
      → all_of (some_of pick first) (first + (a + b)) ≡ all_of (some_of pick first) (first + a) + all_of (some_of pick (first + a)) (first + a + b)
  unfolding sum_to
  meeting pick zero =
      let left : first + (a + 0) ≡ first + a = omega arith in
      let right : first + a + 0 ≡ first + a = omega arith in
      rw (left, right, none_yet pick (first + a)) (omega arith)
  meeting pick (suc b) =
      let left : first + (a + suc b) ≡ suc (first + a + b) = omega arith in
      let right : first + a + suc b ≡ suc (first + a + b) = omega arith in
      let was : first + (a + b) ≡ first + a + b = omega arith in
      let so_far = rw was at (meeting pick b) in
      rw (left, right, le-leb first (first + a + b) (omega arith), le-leb (first + a) (first + a + b) (omega arith)) (omega (arith, so_far))

  -- two stretches that meet are one: each sum, and all of them
  pub stretches-that-meet : (b k : ℕ) → k < 15
      → get_or (stretch_on row one other first (a + b)).sums k 0
      ≡ get_or (stretch_on row one other first a).sums k 0 + get_or (stretch_on row one other (first + a) b).sums k 0
  unfolding stretch_on
  stretches-that-meet b k h =
      rw (
        sums_at row (differ_from one other first) (first + (a + b)) k h,
        sums_at row (differ_from one other first) (first + a) k h,
        sums_at row (differ_from one other (first + a)) (first + a + b) k h,
      ) (meeting (λ (p : ℕ). eqb (number_at row p) k) b)
