-- The four running indices, place by place.
use mathlib.Core.Path.{◌≡◌, refl, sym, ◌∙◌}
use mathlib.Core.Bool.{cond, true, false}
use mathlib.Core.List.{List, [], ◌∷◌}
use Prim.Native.Nat.{ℕ, zero, suc, ◌+◌, ◌*◌, ◌/◌, ◌%◌, ◌≤◌, ◌<◌}
use native.Mathlib.Omega.{arith}
use native.Mathlib.Numerals.{add-one}
use native.Mathlib.Nat.{div-lt_iff_lt-mul, mul-le-mul}
use native.Mathlib.Decide.{ℕ_discrete}
use lib.Dec.{eqb}
use lib.ListN.{get_or, set, length-set}
use lib.Seq.{ext_get_or, get_or-set_same, get_or-set_other}
use borrow.Author.Tests.{eq-eqb, ne_eqb}
use Rattle.table.specs.declared.Row.{Row}
use Rattle.engine.specs.Engine.{sum_over, carries_at, carries_for, count_to, counts_to}
use Rattle.engine.specs.Walk.{Regular, Fits, Counted}
use Rattle.engine.proofs.Rows.{cond-by}

-- a place of the line lies in one of its frames
pub frame_noted : (row : Row) → Regular row → (line notes : ℕ) → Fits row line notes → (p : ℕ) → p < 8 * line → p / row.digits < notes
frame_noted row re line notes fits p h = (div-lt_iff_lt-mul some).1 (omega (arith, fits.whole))
  where
    some : 0 < row.digits
    some = omega (arith, re.packed, re.some)

-- and the line is short
pub line_short : (row : Row) → Regular row → (line notes : ℕ) → Fits row line notes → 8 * line ≤ 262144
line_short row re line notes fits = omega (arith, fits.whole, mul-le-mul fits.few re.short)

module _ (row : Row) (earlier : ℕ) (notes : List ℕ) where
  -- nothing is counted before the first place
  pub counted_start : Counted row earlier notes 0 (0 ∷ 0 ∷ 0 ∷ 0 ∷ [])
  unfolding count_to sum_over
  counted_start = record { four = refl; each = λ j h. zeros j }
    where
      zeros : (j : ℕ) → get_or {A = ℕ} (0 ∷ 0 ∷ 0 ∷ 0 ∷ []) j 0 ≡ 0
      zeros zero = refl
      zeros (suc zero) = refl
      zeros (suc (suc zero)) = refl
      zeros (suc (suc (suc zero))) = refl
      zeros (suc (suc (suc (suc j)))) = refl

  pub count-more : (j p : ℕ) → count_to row earlier notes j (p + 1) ≡ count_to row earlier notes j p + cond (carries_for row earlier notes j p) 1 0
  unfolding count_to sum_over
  count-more j p = rw (add-one p)

  pub count_most : (j p : ℕ) → count_to row earlier notes j p ≤ p
  unfolding count_to sum_over
  count_most j zero = omega arith
  count_most j (suc p) =
      omega (arith, count_most j p, cond-by (λ (n : ℕ). n ≤ 1) (carries_for row earlier notes j p) {a = 1} {b = 0} (omega arith) (omega arith))

  module _ (p : ℕ) (next : List ℕ) (w : Counted row earlier notes p next) where
    abbrev own : ℕ
    own = p % row.digits % 4

    -- a place that carries nothing moves no index
    pub counted-idle : carries_at row earlier notes p ≡ false → Counted row earlier notes (p + 1) next
    unfolding carries_for
    counted-idle e =
        record { four = w.four; each = λ j h. w.each j h ∙ sym (count-more j p ∙ rw (none j) (omega arith)) }
      where
        none : (j : ℕ) → cond {A = ℕ} (carries_for row earlier notes j p) 1 0 ≡ 0
        none j = rw e (cond-by (λ t. cond {A = ℕ} t 1 0 ≡ 0) (eqb own j) refl refl)

    -- one that carries moves its tributary's
    pub counted-carried : carries_at row earlier notes p ≡ true → Counted row earlier notes (p + 1) (set next own (get_or next own 0 + 1))
    unfolding carries_for
    counted-carried e =
        record { four = length-set next own (get_or next own 0 + 1) ∙ w.four; each = λ j h. moved j h ∙ sym (count-more j p) }
      where
        moved : (j : ℕ) → j < 4 → get_or (set next own (get_or next own 0 + 1)) j 0 ≡ count_to row earlier notes j p + cond (carries_for row earlier notes j p) 1 0
        moved j h =
            elim (ℕ_discrete j own) [
              | yes same ↦
                  rw (same, get_or-set_same next own (get_or next own 0 + 1) 0 (omega (arith, w.four)), eq-eqb own own refl, e, w.each own (omega arith))
              | no other ↦
                  rw (get_or-set_other next own j (get_or next own 0 + 1) 0 other, ne_eqb own j (λ s. other (sym s)), w.each j h) (omega arith)
            ]

-- at the end they are the counts
pub counted-all : (row : Row) (earlier : ℕ) (notes : List ℕ) (p : ℕ) (next : List ℕ) → Counted row earlier notes p next → next ≡ counts_to row earlier notes p
counted-all row earlier notes p next w =
    ext_get_or 0 next (counts_to row earlier notes p) w.four (λ i h. w.each i (omega (arith, w.four)) ∙ sym (at i (omega (arith, w.four))))
  where
    at : (i : ℕ) → i < 4 → get_or (counts_to row earlier notes p) i 0 ≡ count_to row earlier notes i p
    at zero h = refl
    at (suc zero) h = refl
    at (suc (suc zero)) h = refl
    at (suc (suc (suc zero))) h = refl
    at (suc (suc (suc (suc i)))) h = absurd (omega arith)
