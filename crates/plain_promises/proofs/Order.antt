-- The order of a tributary's digits. The plain engine goes over all places of a line and picks a tributary's own; the quick one goes over
-- the tributary's columns, one place of four. What one gathers from the places of a column is what the other gathers from the column: for
-- a count and for a list alike.
use mathlib.Core.Path.{◌≡◌, refl, sym, ◌∙◌, ap}
use mathlib.Core.Logic.{◌≢◌}
use mathlib.Core.Bool.{Bool, cond, true, false, not, ◌&&◌, ◌||◌}
use mathlib.Core.List.{List, ◌∷◌}
use Prim.Native.Nat.{ℕ, zero, suc, ◌+◌, ◌*◌, ◌/◌, ◌%◌, ◌≤◌, ◌<◌}
use native.Mathlib.Omega.{arith}
use native.Mathlib.Nat.{add-zero, mod-lt, div-add-mod'}
use native.Mathlib.Decide.{dec_lt, ℕ_discrete}
use lib.Dec.{eqb, ltb}
use lib.ListN.{length}
use borrow.Author.Tests.{lt-ltb, le-ltb, eq-eqb, ne_eqb}
use Rattle.table.specs.declared.Row.{Row}
use Rattle.levels.specs.declared.places.Kind.{Kind}
use Rattle.levels.specs.Table.{Shared}
use Rattle.levels.specs.Places.{pos_of}
use Rattle.levels.specs.Order.{decisions, has_negative, by_own, by_both, action_of, actions, is_stuffed, both_carry, carried, carries, before, count_of, counts_of}
use Rattle.levels.proofs.Columns.{frame-start}
use Rattle.levels.proofs.Counts.{count-of}
use Rattle.engine.specs.declared.frame.Place.{Place}
use Rattle.engine.specs.Engine.{sum_over, negative_places, stuffed_in, negative_in, carries_by, carries_at, carries_for, count_to, counts_to}
use Rattle.engine.proofs.Counting.{count-more}
use Rattle.plain_promises.proofs.Places.{by_place}

-- what a frame does for a tributary is the same: its positive place is stuffed by both, or by neither, and its negative place carries so
pub acts-same : (row : Row) (preceding own : Bool)
    → (own && (not (negative_places row) || preceding) ≡ is_stuffed (action_of row preceding own))
    × (negative_places row && not (own || preceding) ≡ both_carry (action_of row preceding own))
unfolding action_of
acts-same row preceding own = go (has_negative row) preceding own
  where
    go : (t preceding own : Bool)
        → (own && (not t || preceding) ≡ is_stuffed (cond t (by_both preceding own) (by_own own))) × (t && not (own || preceding) ≡ both_carry (cond t (by_both preceding own) (by_own own)))
    go true true true = (refl, refl)
    go true true false = (refl, refl)
    go true false true = (refl, refl)
    go true false false = (refl, refl)
    go false preceding true = (refl, refl)
    go false preceding false = (refl, refl)

-- nothing is counted before the first place
count-start : (row : Row) (earlier : ℕ) (notes : List ℕ) (j : ℕ) → count_to row earlier notes j (4 * 0) ≡ 0
unfolding count_to sum_over
count-start row earlier notes j = refl

module _ (row : Row) (sh : Shared row) where
  pub some : 0 < row.digits
  some = omega (arith, sh.whole, sh.packed, sh.room, sh.counted, sh.first_next)

  -- a place's remainder by four is that of its place in the frame
  pub fours : (p : ℕ) → p % row.digits % 4 ≡ p % 4
  fours p = omega (arith, div-add-mod' p row.digits, frame-start row sh 0 (omega arith) (p / row.digits))

  module _ (earlier : ℕ) (notes : List ℕ) where
    -- a place carries a digit by both, or by neither
    pub carries_same : (p : ℕ) → carries_at row earlier notes p ≡ carries row (actions row earlier notes (p % 4)) p
    unfolding carries_at carries pos_of
    carries_same p =
        let f = p / row.digits in
        let j = p % 4 in
        let st = stuffed_in row earlier notes f j in
        let ng = negative_in row earlier notes f j in
        let acts = acts-same row (decisions (earlier ∷ notes) j f) (decisions notes j f) in
        let same : Place → Kind → Type 0 = λ (pl : Place) (k : Kind). carries_by pl st ng ≡ carried k (actions row earlier notes j f) in
        rw (fours p)
        (by_place row sh (p % row.digits) (mod-lt p some) same (λ _. refl) (λ k _ _. refl) refl refl acts.1 (ap not acts.0) refl)

    -- of the four places of column x, only tributary j's own is its own
    module _ (j : ℕ) (jh : j < 4) where
      own : (x : ℕ) → carries_for row earlier notes j (4 * x + j) ≡ carries row (actions row earlier notes j) (4 * x + j)
      unfolding carries_for
      own x =
          let mine : (4 * x + j) % 4 ≡ j = omega arith in
          rw (fours (4 * x + j), eq-eqb ((4 * x + j) % 4) j mine) (rw mine at (carries_same (4 * x + j)))

      other : (x i : ℕ) → i < 4 → i ≢ j → carries_for row earlier notes j (4 * x + i) ≡ false
      unfolding carries_for
      other x i h n =
          let not-mine : (4 * x + i) % 4 ≡ i = omega arith in
          rw (fours (4 * x + i), not-mine, ne_eqb i j n)

      -- gathering place by place, whatever is gathered
      module _ {A : Type 0} (add : A → A → A) (none : A) (right : (a : A) → add a none ≡ a) (one : ℕ → A) (run : ℕ → A)
          (more : (p : ℕ) → run (p + 1) ≡ add (run p) (cond (carries_for row earlier notes j p) (one p) none)) where
        abbrev here : ℕ → A
        here x = cond (carries row (actions row earlier notes j) (4 * x + j)) (one (4 * x + j)) none

        within : (x i : ℕ) → i ≤ 4 → run (4 * x + i) ≡ add (run (4 * x)) (cond (ltb j i) (here x) none)
        within x zero h = rw (add-zero (4 * x), le-ltb j 0 (omega arith)) (sym (right (run (4 * x))))
        within x (suc i) h =
            let e : 4 * x + suc i ≡ 4 * x + i + 1 = omega arith in
            elim (ℕ_discrete i j) [
              | yes s ↦
                  rw (e, lt-ltb j (suc i) (omega arith))
                  (more (4 * x + i) ∙ rw (within x i (omega arith), le-ltb j i (omega arith), right (run (4 * x)), s, own x))
              | no n ↦
                  rw e (more (4 * x + i) ∙ rw (other x i (omega arith) n, right (run (4 * x + i))) (within x i (omega arith) ∙ rw (same i n)))
            ]
          where
            same : (i : ℕ) → i ≢ j → ltb j i ≡ ltb j (suc i)
            same i n =
                elim (dec_lt j i) [
                  | yes l ↦ lt-ltb j i l ∙ sym (lt-ltb j (suc i) (omega arith))
                  | no l ↦ le-ltb j i (omega arith) ∙ sym (le-ltb j (suc i) (differ l))
                ]
              where
                differ : (j < i → ⊥) → suc i ≤ j
                differ l = omega arith

        -- a whole column
        pub column : (x : ℕ) → run (4 * suc x) ≡ add (run (4 * x)) (here x)
        column x =
            let e : 4 * suc x ≡ 4 * x + 4 = omega arith in
            rw e (within x 4 (omega arith) ∙ rw (lt-ltb j 4 jh))

        -- up to its own place
        pub up_to : (x : ℕ) → run (4 * x + j) ≡ run (4 * x)
        up_to x = within x j (omega arith) ∙ rw (le-ltb j j (omega arith)) (right (run (4 * x)))

      -- so the counts are the same
      pub count-columns : (x : ℕ) → count_to row earlier notes j (4 * x) ≡ before row (actions row earlier notes j) j x
      unfolding before
      count-columns zero = count-start row earlier notes j
      count-columns (suc x) =
          column (λ (a b : ℕ). a + b) 0 add-zero (λ (p : ℕ). 1) (count_to row earlier notes j) (count-more row earlier notes j) x ∙ rw (count-columns x)

      pub count-place : (x : ℕ) → count_to row earlier notes j (4 * x + j) ≡ before row (actions row earlier notes j) j x
      count-place x =
          up_to (λ (a b : ℕ). a + b) 0 add-zero (λ (p : ℕ). 1) (count_to row earlier notes j) (count-more row earlier notes j) x ∙ count-columns x

    pub counts_same : (line : ℕ) → line ≡ length notes * row.bytes → counts_to row earlier notes (8 * line) ≡ counts_of row earlier notes (length notes)
    counts_same line whole = rw (one 0 (omega arith), one 1 (omega arith), one 2 (omega arith), one 3 (omega arith))
      where
        one : (j : ℕ) → j < 4 → count_to row earlier notes j (8 * line) ≡ count_of row (actions row earlier notes j) (length notes)
        one j h =
            let e : 8 * line ≡ 4 * (2 * line) = omega arith in
            ap (count_to row earlier notes j) e ∙ count-columns j h (2 * line) ∙ count-of row sh j h (actions row earlier notes j) (length notes) line whole
