-- What follows from the statement of a comparison, for any two files: the fifteen sums add up to all differing digits, the list shows the differing
-- digits up to its length and no other, a file does not differ from itself, and exchanged files have the same sums and list. And the statement
-- guards the call: it leaves no second answer, it is what the call ensures, and the call asks nothing of its caller.
use Rattle.std.specs.Prelude.{Option, Some, None}
use mathlib.Core.Path.{◌≡◌, refl, sym, ◌∙◌, ap}
use mathlib.Core.Bool.{Bool, cond, true, false, not}
use mathlib.Core.List.{List}
use Prim.Native.Nat.{ℕ, ◌+◌, ◌*◌, ◌<◌}
use native.Mathlib.Omega.{arith}
use native.Mathlib.Decide.{ℕ_discrete}
use lib.Dec.{eqb}
use lib.ListN.{length, get_or, take, replicate, length-take}
use contract.Lifetimes.{Lfts}
use denote.Triple.Clauses.{AtExit}
use borrow.Fn.World.{ArgsD, ResD}
use borrow.Author.Tests.{eq-eqb, ne_eqb, eqb-true, eqb-false}
use Rattle.digits.specs.Digits.{digits_of}
use Rattle.digits.specs.Sums.{sum_to}
use Rattle.digits.proofs.Sums.{sum-all}
use Rattle.digits.proofs.Laws.{zeros-at}
use Rattle.table.specs.declared.Row.{Row}
use Rattle.table.specs.Table.{level_of}
use Rattle.levels.specs.Sizes.{on_level}
use Rattle.levels.proofs.Choice.{cond-by}
use Rattle.levels.proofs.Rows.{shared-row}
use Rattle.captures.specs.declared.Reading.{Reading}
use Rattle.captures.specs.Captures.{read_of}
use Rattle.tally.specs.Tally.{differ_at}
use Rattle.tally.proofs.Sums.{sums-agree, all-agree, adds-up}
use Rattle.differing.specs.declared.Compared.{Compared}
use Rattle.differing.specs.Differing.{places_to, counted_on, listed_on}
use Rattle.differing.specs.Counting.{Counted}
use Rattle.differing.specs.Promises.{Lists}
use Rattle.differing.proofs.Listing.{places-length}
use Rattle.differing.proofs.Walking.{counted_none, counted-over, not-differ}
use Rattle.differing.proofs.Picked.{places-agree}
use Rattle.differing.proofs.Lists.{lists-all}
use Rattle.compare.specs.declared.Fault.{Fault}
use Rattle.compare.specs.Compare.{fault_in, fault_of, refused_by, line_of, compared_of, listed_of, CompareMet}
use Rattle.compare.proofs.Files.{Fitting, fitting, line-length}
use Rattle.compare.specs.contracts.compare as compare
use Rattle.compare.proofs.compare.Reads as compare-reads

-- ---- the statement leaves no second answer, it is what the call ensures, and the call asks nothing

pub compare-one-answer : (one other lent : List ℕ) (a b : Compared) (l m : List ℕ) → CompareMet one other lent a l → CompareMet one other lent b m
    → (a ≡ b) × (l ≡ m)
compare-one-answer one other lent a b l m x y = (x.0 ∙ sym y.0, x.1 ∙ sym y.1)

pub compare-met : (κs : Lfts 3) (a : ArgsD compare.signature κs) (r : ResD compare.signature κs) (e : AtExit compare.ended κs) → compare-reads.Learnt κs a r e
    → CompareMet a.0.now a.1.0.now a.1.1.0.now r e.1.1.0.now
compare-met κs a r e met = met

pub compare-asks-nothing : (κs : Lfts 3) (a : ArgsD compare.signature κs) → compare-reads.Asked κs a
compare-asks-nothing κs a = tt

-- ---- the fifteen add up to all differing digits, refused or not

abbrev pub AddsUp : Compared → Type 0
AddsUp a = sum_to 15 (λ (k : ℕ). get_or a.sums k 0) ≡ a.all

pub refused-adds : (f : Fault) → AddsUp (refused_by f)
refused-adds f = sum-all 15 0 (λ (k : ℕ). get_or (replicate {A = ℕ} 15 0) k 0) (λ k _. zeros-at 15 k)

pub counted-adds : (row : Row) (one other : List ℕ) → AddsUp (counted_on row one other)
unfolding counted_on
counted-adds row one other = adds-up row (differ_at one other) (8 * length one)

pub sums-add-up : (one other lent : List ℕ) (a : Compared) (l : List ℕ) → CompareMet one other lent a l → AddsUp a
unfolding compared_of
sums-add-up one other lent a l met =
    rw met.0
    (cond-by AddsUp (eqb (fault_of (read_of one) (read_of other)).refusal 0) (by_level (level_of (read_of one).level)) (refused-adds (fault_of (read_of one) (read_of other))))
  where
    by_level : (v : Option Row) → AddsUp (on_level v (λ (row : Row). counted_on row (line_of one) (line_of other)) (refused_by (fault_in 1 0 0)))
    by_level (Some row) = counted-adds row (line_of one) (line_of other)
    by_level None = refused-adds (fault_in 1 0 0)

-- ---- what is known of an accepted comparison

pub record ComparedWell (one other lent : List ℕ) : Type 0 where
  pub fits : Fitting (read_of one) (read_of other)
  pub row : Row
  pub has_row : level_of (read_of one).level ≡ Some row
  pub answer_is : compared_of one other ≡ counted_on row (line_of one) (line_of other)
  pub list_is : listed_of one other lent ≡ listed_on row (line_of one) (line_of other)

compared-well : (one other lent : List ℕ) → (compared_of one other).refusal ≡ 0 → ComparedWell one other lent
unfolding compared_of listed_of
compared-well one other lent = go (eqb f.refusal 0) (level_of (read_of one).level) refl refl
  where
    f : Fault
    f = fault_of (read_of one) (read_of other)

    no_level : ◌≡◌ {A = ℕ} 1 0 → ⊥
    no_level e = omega arith

    go : (t : Bool) (v : Option Row) → eqb f.refusal 0 ≡ t → level_of (read_of one).level ≡ v
        → (cond t (on_level v (λ (row : Row). counted_on row (line_of one) (line_of other)) (refused_by (fault_in 1 0 0))) (refused_by f)).refusal ≡ 0
        → ComparedWell one other lent
    go true (Some row) x y e =
        record { fits = fitting (read_of one) (read_of other) (eqb-true f.refusal 0 x); row = row; has_row = y; answer_is = rw (x, y) refl; list_is = rw (x, y) refl }
    go true None x y e = absurd (no_level e)
    go false v x y e = absurd (eqb-false f.refusal 0 x e)

-- where two readings fit each other and their level has this row, that is the comparison
fitted : (one other lent : List ℕ) → Fitting (read_of one) (read_of other) → (row : Row) → level_of (read_of one).level ≡ Some row
    → (compared_of one other ≡ counted_on row (line_of one) (line_of other)) × (listed_of one other lent ≡ listed_on row (line_of one) (line_of other))
unfolding compared_of listed_of fault_of
fitted one other lent f row has =
    rw (
      eq-eqb (read_of one).refusal 0 f.one_good,
      eq-eqb (read_of other).refusal 0 f.other_good,
      eq-eqb (read_of one).level (read_of other).level f.same_level,
      eq-eqb (read_of one).line.bytes (read_of other).line.bytes f.same_bytes,
      has,
    ) (refl, refl)

fits-turned : {one other : Reading} → Fitting one other → Fitting other one
fits-turned f = record { one_good = f.other_good; other_good = f.one_good; same_level = sym f.same_level; same_bytes = sym f.same_bytes }

well : (one other lent : List ℕ) (a : Compared) (l : List ℕ) → CompareMet one other lent a l → a.refusal ≡ 0 → ComparedWell one other lent
well one other lent a l met z = compared-well one other lent (sym (ap (λ (v : Compared). v.refusal) met.0) ∙ z)

-- ---- a refusal writes nothing

pub refused-leaves-the-list : (one other lent : List ℕ) (a : Compared) (l : List ℕ) → CompareMet one other lent a l → (a.refusal ≡ 0 → ⊥) → l ≡ lent
unfolding compared_of listed_of counted_on
refused-leaves-the-list one other lent a l met bad =
    met.1 ∙ go (eqb f.refusal 0) (level_of (read_of one).level) refl refl
  where
    f : Fault
    f = fault_of (read_of one) (read_of other)

    go : (t : Bool) (v : Option Row) → eqb f.refusal 0 ≡ t → level_of (read_of one).level ≡ v
        → cond t (on_level v (λ (row : Row). listed_on row (line_of one) (line_of other)) lent) lent ≡ lent
    go true (Some row) x y = absurd (bad (ap (λ (v : Compared). v.refusal) met.0 ∙ rw (x, y) refl))
    go true None x y = refl
    go false v x y = refl

-- ---- the list shows the differing digits up to its length, and no other

pub list-shows : (one other lent : List ℕ) (a : Compared) (l : List ℕ) → CompareMet one other lent a l → a.refusal ≡ 0
    → (row : Row) → level_of (read_of one).level ≡ Some row → Lists row (differ_at (line_of one) (line_of other)) (8 * length (line_of one)) a.listed l
unfolding counted_on
list-shows one other lent a l met z row has =
    let w = well one other lent a l met z in
    let same : Some row ≡ Some w.row = sym has ∙ w.has_row in
    let is_row : row ≡ w.row = ap (λ (v : Option Row). on_level v (λ (r : Row). r) row) same in
    let sh = shared-row (read_of one).level row has in
    rw (met.0, met.1, w.answer_is, w.list_is, ← is_row)
    (lists-all row (omega (arith, sh.counted, sh.later_set)) (differ_at (line_of one) (line_of other)) (8 * length (line_of one)))

-- ---- equal lines, such as those of one file, do not differ

same-never : (line : List ℕ) (p : ℕ) → differ_at line line p ≡ false
same-never line p = not-differ line line p refl

pub nothing-counted : (row : Row) (line : List ℕ) → (counted_on row line line ≡ refused_by (fault_in 0 0 0)) × (listed_on row line line ≡ replicate 128 0)
unfolding counted_on
nothing-counted row line = (rw (← c.the_sums, ← c.the_all, none) refl, sym c.the_places)
  where
    n : ℕ
    n = 8 * length line

    from-none : 0 + n ≡ n
    from-none = omega arith

    c : Counted row line line n 0 (replicate 15 0) (replicate 128 0)
    c = rw from-none at (counted-over row line line n 0 0 (replicate 15 0) (replicate 128 0) (counted_none row line line) (λ q _ _. same-never line q))

    none : length (take 64 (places_to (differ_at line line) n)) ≡ 0
    none = omega (arith, length-take 64 (places_to (differ_at line line) n), places-length (differ_at line line) n, c.the_all)

pub equal-lines-zeros : (one other lent : List ℕ) (a : Compared) (l : List ℕ) → CompareMet one other lent a l → a.refusal ≡ 0 → line_of one ≡ line_of other
    → (a ≡ refused_by (fault_in 0 0 0)) × (l ≡ replicate 128 0)
equal-lines-zeros one other lent a l met z same =
    let w = well one other lent a l met z in
    let none = nothing-counted w.row (line_of other) in
    (met.0 ∙ w.answer_is ∙ rw same none.0, met.1 ∙ w.list_is ∙ rw same none.1)

pub equal-files-zeros : (file lent : List ℕ) (a : Compared) (l : List ℕ) → CompareMet file file lent a l → a.refusal ≡ 0
    → (a ≡ refused_by (fault_in 0 0 0)) × (l ≡ replicate 128 0)
equal-files-zeros file lent a l met z = equal-lines-zeros file file lent a l met z refl

-- ---- exchanged files have the same sums and the same list

eqb-turned : (m n : ℕ) → eqb m n ≡ eqb n m
eqb-turned m n =
    elim (ℕ_discrete m n) [
      | yes e ↦ rw (eq-eqb m n e, eq-eqb n m (sym e)) refl
      | no e ↦ rw (ne_eqb m n e, ne_eqb n m (λ q. e (sym q))) refl
    ]

turned : (one other : List ℕ) (p : ℕ) → differ_at one other p ≡ differ_at other one p
turned one other p = ap not (eqb-turned (get_or (digits_of one) p 0) (get_or (digits_of other) p 0))

pub counted-turned : (row : Row) (one other : List ℕ) → length one ≡ length other
    → (counted_on row one other ≡ counted_on row other one) × (listed_on row one other ≡ listed_on row other one)
unfolding counted_on
counted-turned row one other same =
    let n = 8 * length other in
    let agree : (p : ℕ) → p < n → differ_at one other p ≡ differ_at other one p = λ p _. turned one other p in
    let places : places_to (differ_at one other) n ≡ places_to (differ_at other one) n = places-agree (differ_at one other) (differ_at other one) n agree in
    rw (same, sums-agree row (differ_at one other) (differ_at other one) n agree, all-agree (differ_at one other) (differ_at other one) n agree, places) (refl, refl)

pub exchanged_same : (one other lent : List ℕ) (a b : Compared) (l m : List ℕ) → CompareMet one other lent a l → CompareMet other one lent b m
    → a.refusal ≡ 0 → (a ≡ b) × (l ≡ m)
exchanged_same one other lent a b l m met back z =
    let both = counted-turned w.row (line_of one) (line_of other) (line-length one ∙ fits.same_bytes ∙ sym (line-length other)) in
    (met.0 ∙ w.answer_is ∙ both.0 ∙ sym (back.0 ∙ is.0), met.1 ∙ w.list_is ∙ both.1 ∙ sym (back.1 ∙ is.1))
  where
    w : ComparedWell one other lent
    w = well one other lent a l met z

    fits : Fitting (read_of one) (read_of other)
    fits = w.fits

    is : (compared_of other one ≡ counted_on w.row (line_of other) (line_of one)) × (listed_of other one lent ≡ listed_on w.row (line_of other) (line_of one))
    is = fitted other one lent (fits-turned fits) w.row (sym (ap level_of fits.same_level) ∙ w.has_row)
