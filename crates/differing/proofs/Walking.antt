-- The walks over two lines: where they do not differ nothing changes, where they differ the place is listed as long as there is room, and bytes that are
-- equal have no differing digits. At the end of the lines what is counted and listed is the answer.
use mathlib.Core.Path.{◌≡◌, refl, sym, ◌∙◌, ap}
use mathlib.Core.Bool.{Bool, true, false}
use mathlib.Core.List.{List}
use Prim.Native.Nat.{ℕ, zero, suc, ◌+◌, ◌-◌, ◌*◌, ◌/◌, ◌≤◌, ◌<◌, min}
use native.Mathlib.Omega.{arith}
use native.Mathlib.Decide.{dec_lt}
use native.Mathlib.Nat.{min_comm}
use lib.ListN.{length, get_or, take, drop, replicate, length-take}
use Rattle.std.proofs.lemmas.List.{get_or-take, get_or-drop}
use borrow.Author.Tests.{eq-eqb, ne_eqb, le-ltb}
use Rattle.digits.specs.Digits.{digits_of}
use Rattle.digits.specs.Sums.{sum_to}
use Rattle.digits.proofs.Laws.{digit_at}
use Rattle.table.specs.declared.Row.{Row}
use Rattle.tally.specs.Tally.{all_of, differ_at}
use Rattle.tally.proofs.Sums.{all_more, sums_same, sums_none}
use Rattle.differing.specs.Differing.{places_to, list_of, counted_on, listed_on}
use Rattle.differing.specs.Counting.{Counted, Listed, put_place, EqualBytes}
use Rattle.differing.proofs.Listing.{places-length, places_same, places-more, list-none, list_put}

module _ (row : Row) (one other : List ℕ) where
  pub counted_none : Counted row one other 0 0 (replicate 15 0) (replicate 128 0)
  unfolding sum_to places_to
  counted_none = record { the_all = refl; the_sums = sym (sums_none row (differ_at one other)); the_places = sym (list-none row) }

  module _ (p all : ℕ) (sums places : List ℕ) (c : Counted row one other p all sums places) where
    counted-pass : differ_at one other p ≡ false → Counted row one other (p + 1) all sums places
    counted-pass e =
        record {
          the_all = c.the_all ∙ sym (all_more row (differ_at one other) p ∙ rw e (omega arith));
          the_sums = c.the_sums ∙ sym (sums_same row (differ_at one other) p e);
          the_places = c.the_places ∙ sym (ap (list_of row) (places_same (differ_at one other) p e));
        }

  -- a stretch without differing digits
  pub counted-over : (k p all : ℕ) (sums places : List ℕ) → Counted row one other p all sums places
      → ((q : ℕ) → p ≤ q → q < p + k → differ_at one other q ≡ false) → Counted row one other (p + k) all sums places
  counted-over zero p all sums places c same = let e : p + 0 ≡ p = omega arith in rw e c
  counted-over (suc k) p all sums places c same =
      let e : p + suc k ≡ p + 1 + k = omega arith in
      rw e
      (counted-over k (p + 1) all sums places (counted-pass p all sums places c (same p (omega arith) (omega arith)))
      (λ q l h. same q (omega arith) (omega arith)))

-- digits that are equal do not differ
pub not-differ : (one other : List ℕ) (p : ℕ) → get_or (digits_of one) p 0 ≡ get_or (digits_of other) p 0 → differ_at one other p ≡ false
not-differ one other p e = rw (eq-eqb (get_or (digits_of one) p 0) (get_or (digits_of other) p 0) e) refl

pub do-differ : (one other : List ℕ) (p : ℕ) → (get_or (digits_of one) p 0 ≡ get_or (digits_of other) p 0 → ⊥) → differ_at one other p ≡ true
do-differ one other p n = rw (ne_eqb (get_or (digits_of one) p 0) (get_or (digits_of other) p 0) n) refl

-- nor do those of equal bytes
pub equal-digits : (one other : List ℕ) (from to : ℕ) → EqualBytes one other from to → (q : ℕ) → 8 * from ≤ q → q < 8 * to → differ_at one other q ≡ false
equal-digits one other from to same q l h =
    not-differ one other q (digit_at one q ∙ rw (same (q / 8) (omega arith) (omega arith)) (sym (digit_at other q)))

-- a byte of a stretch is a byte of the list
in-stretch : (xs : List ℕ) (from to k : ℕ) → from ≤ k → k < to → get_or xs k 0 ≡ get_or (take (to - from) (drop from xs)) (k - from) 0
in-stretch xs from to k l h =
    let e : from + (k - from) ≡ k = omega arith in
    sym (get_or-take (to - from) (drop from xs) (k - from) 0 (omega arith) ∙ get_or-drop from xs (k - from) 0 ∙ ap (λ (i : ℕ). get_or xs i 0) e)

-- the bytes of stretches that are equal
pub equal-stretch : (one other : List ℕ) (from to : ℕ) → take (to - from) (drop from one) ≡ take (to - from) (drop from other) → EqualBytes one other from to
equal-stretch one other from to e k l h =
    in-stretch one from to k l h ∙ ap (λ (xs : List ℕ). get_or xs (k - from) 0) e ∙ sym (in-stretch other from to k l h)

pub equal-one : (one other : List ℕ) (i : ℕ) → get_or one i 0 ≡ get_or other i 0 → EqualBytes one other i (i + 1)
equal-one one other i e k l h = let s : k ≡ i = omega arith in rw s e

-- ---- the list, as far as there is room in it

module _ (row : Row) (one other : List ℕ) where
  pub listed-none : Listed row one other 0 0 (replicate 128 0)
  unfolding sum_to places_to
  listed-none = record { the_places = sym (list-none row); the_all = refl; few = omega arith }

  module _ (p all : ℕ) (places : List ℕ) (l : Listed row one other p all places) where
    pub listed-pass : differ_at one other p ≡ false → Listed row one other (p + 1) all places
    listed-pass e =
        record {
          the_places = l.the_places ∙ sym (ap (list_of row) (places_same (differ_at one other) p e));
          the_all = l.the_all ∙ ap (λ (n : ℕ). min n 64) (sym (all_more row (differ_at one other) p ∙ rw e (omega arith)));
          few = omega (arith, l.few);
        }

    -- a place is put where the number of those before it says, or nowhere
    put_same : put_place row p all places ≡ put_place row p (all_of (differ_at one other) p) places
    put_same =
        elim (dec_lt all 64) [
          | yes h ↦ let e : all ≡ all_of (differ_at one other) p = omega (arith, l.the_all) in rw e refl
          | no h ↦ rw (le-ltb all 64 (omega arith), le-ltb (all_of (differ_at one other) p) 64 (omega (arith, l.the_all))) refl
        ]

    pub listed_more : differ_at one other p ≡ true → Listed row one other (p + 1) (all + 1) (put_place row p all places)
    listed_more e =
        let test = differ_at one other in
        let more : all_of test (p + 1) ≡ all_of test p + 1 = all_more row test p ∙ rw e refl in
        record {
          the_places =
              put_same
              ∙ rw (l.the_places, ← places-length test p) (sym (ap (list_of row) (places-more test p e) ∙ list_put row (places_to test p) p));
          the_all = rw more (omega (arith, l.the_all));
          few = omega (arith, l.few);
        }

    -- a full list stays
    pub listed-on : 64 ≤ all → Listed row one other (p + 1) all places
    listed-on h = go (differ_at one other p) refl
      where
        go : (t : Bool) → differ_at one other p ≡ t → Listed row one other (p + 1) all places
        go false e = listed-pass e
        go true e =
            let more = listed_more e in
            record { the_places = rw (le-ltb all 64 h) at more.the_places; the_all = omega (arith, more.the_all); few = omega (arith, l.few) }

  pub listed-full : (k p all : ℕ) (places : List ℕ) → 64 ≤ all → Listed row one other p all places → Listed row one other (p + k) all places
  listed-full zero p all places h l = let e : p + 0 ≡ p = omega arith in rw e l
  listed-full (suc k) p all places h l =
      let e : p + suc k ≡ p + 1 + k = omega arith in
      rw e (listed-full k (p + 1) all places h (listed-on p all places l h))

  pub listed-over : (k p all : ℕ) (places : List ℕ) → Listed row one other p all places
      → ((q : ℕ) → p ≤ q → q < p + k → differ_at one other q ≡ false) → Listed row one other (p + k) all places
  listed-over zero p all places l same = let e : p + 0 ≡ p = omega arith in rw e l
  listed-over (suc k) p all places l same =
      let e : p + suc k ≡ p + 1 + k = omega arith in
      rw e
      (listed-over k (p + 1) all places (listed-pass p all places l (same p (omega arith) (omega arith)))
      (λ q m h. same q (omega arith) (omega arith)))

-- whole bytes that are equal are passed over
pub list_over : (row : Row) (one other : List ℕ) (from to all : ℕ) (places : List ℕ) → from ≤ to → Listed row one other (8 * from) all places
    → EqualBytes one other from to → Listed row one other (8 * to) all places
list_over row one other from to all places h l same =
    let e : 8 * to ≡ 8 * from + (8 * to - 8 * from) = omega arith in
    rw e
    (listed-over row one other (8 * to - 8 * from) (8 * from) all places l (λ q m k. equal-digits one other from to same q m (omega arith)))

-- and so is all that follows a full list
pub list_full : (row : Row) (one other : List ℕ) (n m all : ℕ) (places : List ℕ) → n ≤ m → 64 ≤ all → Listed row one other n all places
    → Listed row one other m all places
list_full row one other n m all places h full l = let e : m ≡ n + (m - n) = omega arith in rw e (listed-full row one other (m - n) n all places full l)

-- at the end the list is whole
pub list-end : (row : Row) (one other : List ℕ) (n all : ℕ) (places : List ℕ) → n ≡ length one → Listed row one other (8 * n) all places
    → places ≡ listed_on row one other
list-end row one other n all places e l = (rw e at l).the_places

-- what was counted and listed at the end of the lines is the answer
pub finished : (row : Row) (one other : List ℕ) (all listed : ℕ) (sums places : List ℕ) → Counted row one other (8 * length one) all sums places
    → listed ≡ min all 64
    → (record { refusal = 0; file = 0; byte = 0; sums = sums; all = all; listed = listed } ≡ counted_on row one other)
    × (places ≡ listed_on row one other)
unfolding counted_on
finished row one other all listed sums places c few = (rw (shown, c.the_all, c.the_sums) refl, c.the_places)
  where
    ps : List ℕ
    ps = places_to (differ_at one other) (8 * length one)

    shown : listed ≡ length (take 64 ps)
    shown = few ∙ min_comm all 64 ∙ rw (c.the_all, ← places-length (differ_at one other) (8 * length one)) (sym (length-take 64 ps))
