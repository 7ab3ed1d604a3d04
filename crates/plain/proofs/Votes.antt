-- The control digits of a frame and the wrong digits of its alignment signal, counted place by place.
use mathlib.Core.Path.{◌≡◌, refl, ◌∙◌}
use mathlib.Core.Bool.{Bool, cond}
use mathlib.Core.List.{List, [], ◌∷◌}
use Prim.Native.Nat.{ℕ, zero, suc, ◌+◌, ◌*◌, ◌%◌, ◌≤◌, ◌<◌}
use native.Mathlib.Omega.{arith}
use native.Mathlib.Numerals.{add-one}
use native.Mathlib.Decide.{ℕ_discrete}
use lib.Dec.{eqb}
use lib.ListN.{length, get_or, set}
use lib.Seq.{get_or-set_same, get_or-set_other}
use borrow.Author.Tests.{eq-eqb, ne_eqb}
use Rattle.table.specs.declared.Row.{Row}
use Rattle.engine.specs.declared.frame.Place.{Place}
use Rattle.engine.specs.declared.frame.Place.TheVariants.{Alignment, Service, Fixed, Control, Negative, Positive, Tributary}
use Rattle.engine.specs.Engine.{sum_over, place_in, received, wrong_by, wrong_to, votes_by, votes_to, note_in, dissent_in}
use Rattle.plain.specs.Walk.{is_control, Voted, decisions_of, minorities_of, services_in}
use Rattle.engine.proofs.Rows.{cond-by}

-- only a control digit votes
pub control-votes : (j v q d : ℕ) (place : Place) → votes_by j v q d place ≡ cond (is_control place) (cond (eqb (q % 4) j) (cond (eqb d v) 1 0) 0) 0
control-votes j v q d Alignment = refl
control-votes j v q d Service = refl
control-votes j v q d Fixed = refl
control-votes j v q d Control = refl
control-votes j v q d Negative = refl
control-votes j v q d Positive = refl
control-votes j v q d Tributary = refl

-- one vote more
pub vote-counted : (votes : List ℕ) → length votes ≡ 8 → (q d : ℕ) → d < 2 → (j v : ℕ) → j < 4 → v < 2
    → get_or (set votes (4 * d + q % 4) (get_or votes (4 * d + q % 4) 0 + 1)) (4 * v + j) 0
    ≡ get_or votes (4 * v + j) 0 + cond (eqb (q % 4) j) (cond (eqb d v) 1 0) 0
vote-counted votes eight q d hd j v hj hv =
    elim (ℕ_discrete (q % 4) j) [
      | yes ej ↦
          elim (ℕ_discrete d v) [
            | yes ev ↦
                rw (eq-eqb (q % 4) j ej, eq-eqb d v ev, ← ej, ← ev) (get_or-set_same votes at (get_or votes at 0 + 1) 0 (omega (arith, eight)))
            | no nv ↦
                rw (eq-eqb (q % 4) j ej, ne_eqb d v nv)
                (get_or-set_other votes at (4 * v + j) (get_or votes at 0 + 1) 0 (λ e. nv (omega arith)) ∙ none)
          ]
      | no nj ↦
          rw (ne_eqb (q % 4) j nj) (get_or-set_other votes at (4 * v + j) (get_or votes at 0 + 1) 0 (λ e. nj (omega arith)) ∙ none)
    ]
  where
    at : ℕ
    at = 4 * d + q % 4

    none : get_or votes (4 * v + j) 0 ≡ get_or votes (4 * v + j) 0 + 0
    none = omega arith

-- a sum of ones and zeros
sum-few : (n : ℕ) (g : ℕ → ℕ) → ((i : ℕ) → g i ≤ 1) → sum_over n g ≤ n
unfolding sum_over
sum-few zero g few = omega arith
sum-few (suc n) g few = omega (arith, sum-few n g few, few n)

one : (t : Bool) → cond {A = ℕ} t 1 0 ≤ 1
one t = cond-by (λ (n : ℕ). n ≤ 1) t {a = 1} {b = 0} (omega arith) (omega arith)

module _ (row : Row) (line : List ℕ) (f : ℕ) where
  pub votes-most : (j v n : ℕ) → votes_to row line f j v n ≤ n
  votes-most j v n = sum-few n (λ (q : ℕ). votes_by j v q (received row line f q) (place_in row q)) (λ q. few q (place_in row q))
    where
      few : (q : ℕ) (place : Place) → votes_by j v q (received row line f q) place ≤ 1
      few q place =
          rw (control-votes j v q (received row line f q) place)
          (cond-by (λ (n : ℕ). n ≤ 1) (is_control place) {b = 0}
          (cond-by (λ (n : ℕ). n ≤ 1) (eqb (q % 4) j) {b = 0} (one (eqb (received row line f q) v)) (omega arith)) (omega arith))

  pub voted-start : Voted row line f 0 (0 ∷ 0 ∷ 0 ∷ 0 ∷ 0 ∷ 0 ∷ 0 ∷ 0 ∷ [])
  unfolding sum_over
  voted-start = record { eight = refl; each = λ j v hj hv. zeros (4 * v + j) }
    where
      zeros : (i : ℕ) → get_or {A = ℕ} (0 ∷ 0 ∷ 0 ∷ 0 ∷ 0 ∷ 0 ∷ 0 ∷ 0 ∷ []) i 0 ≡ 0
      zeros zero = refl
      zeros (suc zero) = refl
      zeros (suc (suc zero)) = refl
      zeros (suc (suc (suc zero))) = refl
      zeros (suc (suc (suc (suc zero)))) = refl
      zeros (suc (suc (suc (suc (suc zero))))) = refl
      zeros (suc (suc (suc (suc (suc (suc zero)))))) = refl
      zeros (suc (suc (suc (suc (suc (suc (suc zero))))))) = refl
      zeros (suc (suc (suc (suc (suc (suc (suc (suc i)))))))) = refl

  pub voted-more : (q : ℕ) (votes new : List ℕ) → Voted row line f q votes → length new ≡ 8
      → ((j v : ℕ) → j < 4 → v < 2 → get_or new (4 * v + j) 0 ≡ get_or votes (4 * v + j) 0 + votes_by j v q (received row line f q) (place_in row q))
      → Voted row line f (q + 1) new
  unfolding sum_over
  voted-more q votes new w eight more =
      record { eight = eight; each = λ j v hj hv. more j v hj hv ∙ rw (add-one q, w.each j v hj hv) }

  pub wrong-more : (q : ℕ) → wrong_to row line f (q + 1) ≡ wrong_to row line f q + wrong_by row q (received row line f q) (place_in row q)
  unfolding sum_over
  wrong-more q = rw (add-one q)

  pub wrong-none : wrong_to row line f 0 ≡ 0
  unfolding sum_over
  wrong-none = refl

  -- the note and the minorities by the votes of the whole frame
  module _ (votes : List ℕ) (w : Voted row line f row.digits votes) where
    zeros : (j : ℕ) → j < 4 → get_or votes (4 * 0 + j) 0 ≡ votes_to row line f j 0 row.digits
    zeros j h = w.each j 0 h (omega arith)

    ones : (j : ℕ) → j < 4 → get_or votes (4 * 1 + j) 0 ≡ votes_to row line f j 1 row.digits
    ones j h = w.each j 1 h (omega arith)

    pub note-by : decisions_of votes + services_in row line f ≡ note_in row line f
    unfolding decisions_of services_in note_in
    note-by =
        rw (zeros 0 (omega arith), zeros 1 (omega arith), zeros 2 (omega arith), zeros 3 (omega arith), ones 0 (omega arith), ones 1 (omega arith), ones 2 (omega arith), ones 3 (omega arith))
        (omega arith)

    pub minorities-by : minorities_of votes ≡ dissent_in row line f 0 ∷ dissent_in row line f 1 ∷ dissent_in row line f 2 ∷ dissent_in row line f 3 ∷ []
    unfolding minorities_of
    minorities-by =
        rw (zeros 0 (omega arith), zeros 1 (omega arith), zeros 2 (omega arith), zeros 3 (omega arith), ones 0 (omega arith), ones 1 (omega arith), ones 2 (omega arith), ones 3 (omega arith))
