-- What a tributary's columns carry, as a list that grows: column by column, and set by set. Behind the head of its set every column carries a
-- digit, so that a set hands out one run (`taken-set`); where justification places carry, the run begins with their columns.
use mathlib.Core.Path.{◌≡◌, refl, sym, ◌∙◌, ap}
use mathlib.Core.Logic.{◌≢◌}
use mathlib.Core.Bool.{Bool, cond, true, false}
use mathlib.Core.List.{List, [], ◌∷◌, ◌++◌, map, append-nil, append_assoc}
use Prim.Native.Nat.{ℕ, zero, suc, ◌+◌, ◌*◌, ◌/◌, ◌%◌, ◌-◌, ◌≤◌, ◌<◌}
use native.Mathlib.Omega.{arith}
use native.Mathlib.Decide.{dec_le, dec_lt, ℕ_discrete}
use native.Mathlib.Nat.{add-mul}
use lib.Dec.{leb}
use lib.ListN.{length, get_or, length-map}
use borrow.Author.Tests.{eq-eqb, ne_eqb, le-leb, lt-leb, lt-ltb, le-ltb}
use Rattle.digits.proofs.Laws.{map-append}
use Rattle.table.specs.declared.Row.{Row}
use Rattle.levels.specs.declared.order.Action.{Action}
use Rattle.levels.specs.declared.order.Action.TheVariants.{Stuffed, PositiveCarries, BothCarry}
use Rattle.levels.specs.declared.places.Sign.TheVariants.{Negative, Positive}
use Rattle.levels.specs.declared.places.Kind.TheVariants.{Justification}
use Rattle.levels.specs.Table.{Shared}
use Rattle.levels.specs.Places.{head_end}
use Rattle.levels.specs.Order.{has_negative, acts_by, actions, carried, carries, before, places_of}
use Rattle.levels.proofs.Choice.{cond_same}
use Rattle.levels.proofs.Columns.{wide, columns, head_of, head_columns, last_head, head-last, head-fours, line-carries, frame-start}
use Rattle.levels.proofs.Counts.{head-fits}
use Rattle.levels.proofs.Sentences.{set-start}
use Rattle.levels.proofs.Inverse.{places-length}
use Rattle.unweave.specs.Lanes.{picked, run_digits, column_digits, set_digits}
use Rattle.unweave.proofs.Lanes.{picked-cat}
use Rattle.unweave.proofs.Runs.{last-head}
use Rattle.extraction.specs.Quarters.{taken_to}

module _ (row : Row) (earlier : ℕ) (notes ds : List ℕ) (j : ℕ) where
  abbrev acts : ℕ → Action
  acts = actions row earlier notes j

  abbrev digit : ℕ → ℕ
  digit p = get_or ds p 0

  pub taken-length : (x : ℕ) → length (taken_to row earlier notes ds j x) ≡ before row acts j x
  unfolding taken_to
  taken-length x = length-map (places_of row acts j x) digit ∙ places-length row acts j x

  taken_more : (x : ℕ) → taken_to row earlier notes ds j (suc x) ≡ taken_to row earlier notes ds j x ++ cond (carries row acts (4 * x + j)) (digit (4 * x + j) ∷ []) []
  unfolding taken_to places_of
  taken_more x =
      map-append digit (places_of row acts j x) _ ∙ ap (λ (l : List ℕ). taken_to row earlier notes ds j x ++ l) (one (carries row acts (4 * x + j)))
    where
      one : (t : Bool) → map digit (cond t ((4 * x + j) ∷ []) []) ≡ cond t (digit (4 * x + j) ∷ []) []
      one true = refl
      one false = refl

  module _ (sh : Shared row) (jh : j < 4) (f s : ℕ) (hs : s < row.sets) where
    -- column c of the set
    abbrev at : ℕ → ℕ
    at c = f * columns row + (s * wide row + c)

    abbrev h : ℕ
    h = head_columns row s (acts f)

    -- one column more, in the head or past it
    grows : (c : ℕ) → picked (c - h) ds (4 * at h + j) ++ cond (leb h c) (digit (4 * at c + j) ∷ []) [] ≡ picked (suc c - h) ds (4 * at h + j)
    unfolding picked
    grows c =
        elim (dec_le h c) [
          | yes a ↦
              let e : suc c - h ≡ suc (c - h) = omega arith in
              let there : 4 * at h + j + 4 * (c - h) ≡ 4 * at c + j = omega arith in
              rw (le-leb h c a, e, there)
          | no a ↦
              let e : suc c - h ≡ 0 = omega arith in
              let g : c - h ≡ 0 = omega arith in
              rw (lt-leb h c (omega arith), e, g)
        ]

    taken-columns : (c : ℕ) → c ≤ wide row → taken_to row earlier notes ds j (at c) ≡ taken_to row earlier notes ds j (at 0) ++ picked (c - h) ds (4 * at h + j)
    unfolding picked
    taken-columns zero l = let none : 0 - h ≡ 0 = omega arith in rw none (sym (append-nil (taken_to row earlier notes ds j (at 0))))
    taken-columns (suc c) l =
        let e : at (suc c) ≡ suc (at c) = omega arith in
        rw (e, taken_more (at c), line-carries row sh j jh acts f s c hs l, taken-columns c (omega arith))
        (append_assoc (taken_to row earlier notes ds j (at 0)) (picked (c - h) ds (4 * at h + j)) (cond (leb h c) (digit (4 * at c + j) ∷ []) [])
        ∙ ap (λ (l : List ℕ). taken_to row earlier notes ds j (at 0) ++ l) (grows c))

    -- what the frame does for each tributary, by its own note and the preceding one
    abbrev by : ℕ → Action
    by = acts_by row (get_or (earlier ∷ notes) f 0) (get_or notes f 0)

    abbrev p : ℕ
    p = f * row.digits + s * row.set

    abbrev run : ℕ
    run = (row.set - head_end row s) / 4

    start : p ≡ 4 * at 0
    start = omega (arith, frame-start row sh j jh f, set-start row sh s)

    -- past a head of n places
    past : (n : ℕ) → n % 4 ≡ 0 → n ≤ row.set → picked (wide row - n / 4) ds (4 * at (n / 4) + j) ≡ run_digits ds (p + n) ((row.set - n) / 4) j
    past n fours fits =
        let many : wide row - n / 4 ≡ (row.set - n) / 4 = omega (arith, sh.set_fours) in
        let there : 4 * at (n / 4) + j ≡ p + n + j = omega (arith, start) in
        rw (many, there)

    -- columns of the head that carry, then the run
    first-column : (n m : ℕ) → n + 4 ≡ m → m % 4 ≡ 0 → m ≤ row.set
        → run_digits ds (p + n) ((row.set - n) / 4) j ≡ (digit (p + n + j) ∷ []) ++ run_digits ds (p + m) ((row.set - m) / 4) j
    unfolding picked
    first-column n m next fours fits =
        let one : (row.set - n) / 4 ≡ 1 + (row.set - m) / 4 = omega (arith, sh.set_fours) in
        let there : p + n + j + 4 * 1 ≡ p + m + j = omega arith in
        let here : p + n + j + 4 * 0 ≡ p + n + j = omega arith in
        rw (one, picked-cat ds (p + n + j) 1 ((row.set - m) / 4), there, here)

    -- the last set: its justification places carry, or they lie in the head
    abbrev rest : List ℕ
    rest = run_digits ds (p + row.last) ((row.set - row.last) / 4) j

    positive-first : run_digits ds (p + (row.last - 4)) ((row.set - (row.last - 4)) / 4) j ≡ (digit (p + (row.last - 4) + j) ∷ []) ++ rest
    positive-first = first-column (row.last - 4) row.last (omega (arith, sh.last_least)) sh.last_fours sh.last_room

    both_first : run_digits ds (p + 4) ((row.set - 4) / 4) j ≡ (cond (has_negative row) (digit (p + 4 + j) ∷ []) [] ++ (digit (p + (row.last - 4) + j) ∷ [])) ++ rest
    both_first =
        elim (dec_lt row.n row.room) [
          | yes more ↦
              let third : 4 + 4 ≡ row.last - 4 = omega (arith, sh.most, sh.last_most, sh.last_least, sh.last_fours) in
              rw (lt-ltb row.n row.room more)
              (first-column 4 (row.last - 4) third (omega (arith, sh.last_fours, sh.last_least)) (omega (arith, sh.last_room))
              ∙ ap (λ (l : List ℕ). digit (p + 4 + j) ∷ l) positive-first)
          | no none ↦
              let second : row.last - 4 ≡ 4 = omega (arith, sh.most, sh.last_most, sh.last_least, sh.last_fours) in
              rw (le-ltb row.n row.room (omega arith), second) (rw second at positive-first)
        ]

    last-ways : (act : Action) → run_digits ds (p + last_head row act) ((row.set - last_head row act) / 4) j
        ≡ (cond (has_negative row) (column_digits ds (p + 4) (carried (Justification Negative) act) j) [] ++ column_digits ds (p + (row.last - 4)) (carried (Justification Positive) act) j) ++ rest
    last-ways Stuffed = rw (cond_same {A = List ℕ} (has_negative row) [])
    last-ways PositiveCarries = rw (cond_same {A = List ℕ} (has_negative row) []) positive-first
    last-ways BothCarry = both_first

    other-head : s ≢ row.sets - 1 → head_of row s (acts f) ≡ head_end row s
    unfolding head_of head_end
    other-head n = rw (ne_eqb s (row.sets - 1) n)

    set-ways : run_digits ds (p + head_of row s (acts f)) ((row.set - head_of row s (acts f)) / 4) j ≡ set_digits row ds p s by j
    set-ways =
        elim (ℕ_discrete s (row.sets - 1)) [
          | yes e ↦ rw (head-last row sh s (acts f) (omega (arith, sh.later_set)), eq-eqb s (row.sets - 1) e, last-head row sh s e) (last-ways (acts f))
          | no n ↦ rw (ne_eqb s (row.sets - 1) n, other-head n)
        ]

    -- a set hands out what its head does, then its run
    pub taken-set : taken_to row earlier notes ds j (f * columns row + (s + 1) * wide row) ≡ taken_to row earlier notes ds j (f * columns row + s * wide row) ++ set_digits row ds p s by j
    taken-set =
        let next : f * columns row + (s + 1) * wide row ≡ at (wide row) = omega (arith, add-mul s 1 (wide row)) in
        let here : f * columns row + s * wide row ≡ at 0 = omega arith in
        let head = head_of row s (acts f) in
        let fours : head % 4 ≡ 0 = head-fours row sh s (acts f) in
        let run = past head fours (omega (arith, head-fits row sh s (acts f), fours, sh.set_fours)) ∙ set-ways in
        rw (next, here) (taken-columns (wide row) (omega arith) ∙ ap (λ (l : List ℕ). taken_to row earlier notes ds j (at 0) ++ l) run)
