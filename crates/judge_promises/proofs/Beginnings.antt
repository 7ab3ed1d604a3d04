-- If two readings fit, the digits of one are the beginning of the other's: with digits that are given, since both are the beginning of those; with a pattern, since no reading
-- differs from another before the first justification place, and a pattern's digits go on from there by the recurrence alone.
use Rattle.std.specs.Prelude.{Option, Some, None}
use mathlib.Core.Path.{◌≡◌, refl, sym, ◌∙◌, ap, subst}
use mathlib.Core.Bool.{Bool, cond, true, false}
use mathlib.Core.List.{List, map}
use Prim.Native.Nat.{ℕ, zero, suc, ◌+◌, ◌*◌, ◌-◌, ◌/◌, ◌≤◌, ◌<◌}
use native.Mathlib.Omega.{arith}
use native.Mathlib.Decide.{dec_lt, ℕ_discrete}
use native.Mathlib.Nat.{zero-mul, suc-mul}
use lib.Dec.{eqb}
use lib.ListN.{length, get_or, take, drop, length-take, length-map}
use lib.Seq.{get_or-take}
use borrow.Author.Tests.{eqb-true, eq-eqb, ne_eqb, le-leb}
use Rattle.digits.specs.Digits.{digits_of, tab}
use Rattle.digits.proofs.Laws.{tab-of, map_at}
use Rattle.digits.proofs.Sums.{sum-zero}
use Rattle.table.specs.declared.Row.{Row}
use Rattle.table.specs.Table.{row2, row3, row4, row12, row14, level_of}
use Rattle.levels.specs.Table.{Shared}
use Rattle.levels.specs.Sizes.{quarter_of}
use Rattle.levels.specs.declared.order.Action.{Action}
use Rattle.levels.specs.Order.{actions, carries, before, places_of}
use Rattle.levels.proofs.Choice.{cond-by}
use Rattle.levels.proofs.Columns.{wide, columns, head_columns, head_first, line-carries}
use Rattle.levels.proofs.Counts.{set-count}
use Rattle.levels.proofs.Inverse.{places-length, digit-of-place}
use Rattle.levels.proofs.Positions.{in_frame}
use Rattle.extraction.specs.Quarters.{taken_to}
use Rattle.promises.proofs.Accepted.{shared}
use Rattle.judge.specs.Readings.{majorities, read_by}
use Rattle.judge.specs.Wrong.{stage_of, due_at, wrong_at, wrong_in}
use Rattle.judge_promises.specs.Verdicts.{Question, JudgeAccepted, ReadsRight, Begins, OneBegins}
use Rattle.judge_promises.proofs.Fitting.{stage-least, judge-level, known-pattern, judged-places}

-- a level's first set has room for more digits of a tributary than a pattern has stages
abbrev Roomy : Option Row → Type 0
Roomy (Some row) = row.first + 92 ≤ row.set
Roomy None = Unit {0}

roomy : (level : ℕ) → Roomy (level_of level)
unfolding level_of
roomy level =
    let two : row2.first + 92 ≤ row2.set = omega arith in
    let three : row3.first + 92 ≤ row3.set = omega arith in
    let four : row4.first + 92 ≤ row4.set = omega arith in
    let twelve : row12.first + 92 ≤ row12.set = omega arith in
    let fourteen : row14.first + 92 ≤ row14.set = omega arith in
    cond-by Roomy (eqb level 2) two
    (cond-by Roomy (eqb level 3) three (cond-by Roomy (eqb level 4) four (cond-by Roomy (eqb level 12) twelve (cond-by Roomy (eqb level 14) fourteen tt))))

-- digit i of a reading stands in the first set where i is small, whatever the frames do
module _ (row : Row) (sh : Shared row) (wide-first : row.first + 92 ≤ row.set) (F j : ℕ) (hj : j < 4) (some : 0 < F) (acts : ℕ → Action) (i : ℕ) (few : i < 23) where
  abbrev column : ℕ
  column = row.first / 4 + i

  inside : column < wide row
  inside = omega (arith, sh.set_fours, sh.first_fours)

  carrying : carries row acts (4 * column + j) ≡ true
  carrying =
      let place : 0 * columns row + (0 * wide row + column) ≡ column = omega (arith, zero-mul (columns row), zero-mul (wide row)) in
      let first : head_columns row 0 (acts 0) ≡ row.first / 4 = ap (λ (h : ℕ). h / 4) (head_first row sh (acts 0)) in
      subst (λ (c : ℕ). carries row acts (4 * c + j) ≡ true) place
      (line-carries row sh j hj acts 0 0 column (omega (arith, sh.later_set)) inside ∙ le-leb (head_columns row 0 (acts 0)) column (omega (arith, first)))

  counted : before row acts j column ≡ i
  unfolding before
  counted =
      let place : 0 * columns row + (0 * wide row + column) ≡ column = omega (arith, zero-mul (columns row), zero-mul (wide row)) in
      let start : 0 * columns row + 0 * wide row ≡ 0 = omega (arith, zero-mul (columns row), zero-mul (wide row)) in
      let first : head_columns row 0 (acts 0) ≡ row.first / 4 = ap (λ (h : ℕ). h / 4) (head_first row sh (acts 0)) in
      let all = set-count row sh j hj acts 0 0 column (omega (arith, sh.later_set)) (omega (arith, inside)) in
      let none : before row acts j (0 * columns row + 0 * wide row) ≡ 0 = ap (before row acts j) start in
      ap (before row acts j) (sym place) ∙ omega (arith, all, none, first)

  in_line : column < F * columns row
  in_line = omega (arith, inside, rows, one)
    where
      rows : wide row ≤ columns row
      rows = omega (arith, in_frame row sh 1 0 (omega (arith, sh.later_set)) (omega (arith, sh.room)))

      one : columns row ≤ F * columns row
      one = let e : F ≡ suc (F - 1) = omega arith in rw e (omega (arith, suc-mul (F - 1) (columns row)))

  pub stands-first : get_or (places_of row acts j (F * columns row)) i 0 ≡ 4 * column + j
  stands-first = ap (λ (k : ℕ). get_or (places_of row acts j (F * columns row)) k 0) (sym counted) ∙ digit-of-place row acts j (F * columns row) column in_line carrying

-- a reading without a wrong digit has what is due
due : (pattern : ℕ) (sent ds : List ℕ) → wrong_in pattern sent ds ≡ 0 → (i : ℕ) → pattern ≤ i → i < length ds → get_or ds i 0 ≡ due_at pattern sent ds i
unfolding wrong_in
due pattern sent ds none i low h =
    let k : pattern + (i - pattern) ≡ i = omega arith in
    let z = sum-zero (length ds - pattern) (λ (k : ℕ). wrong_at pattern sent ds (pattern + k)) none (i - pattern) (omega arith) in
    eqb-true (get_or ds i 0) (due_at pattern sent ds i) (one (eqb (get_or ds i 0) (due_at pattern sent ds i)) (subst (λ (k : ℕ). wrong_at pattern sent ds k ≡ 0) k z))
  where
    one : (t : Bool) → ◌≡◌ {A = ℕ} (cond t 0 1) 0 → t ≡ true
    one true e = refl
    one false e = absurd (no e)
      where
        no : ◌≡◌ {A = ℕ} 1 0 → ⊥
        no e = omega arith

-- two lists that begin alike and have what is due are alike as far as both go
module _ (pattern : ℕ) (sent xs ys : List ℕ) (x-due : wrong_in pattern sent xs ≡ 0) (y-due : wrong_in pattern sent ys ≡ 0) (shorter : length xs ≤ length ys)
    (start : (i : ℕ) → i < pattern → i < length xs → get_or xs i 0 ≡ get_or ys i 0) where
  alike : (n i : ℕ) → i < n → i < length xs → get_or xs i 0 ≡ get_or ys i 0
  unfolding due_at
  alike zero i hn h = absurd (none hn)
    where
      none : i < 0 → ⊥
      none h = omega arith
  alike (suc n) i hn h =
      elim (dec_lt i pattern) [
        | yes l ↦ start i l h
        | no l ↦ due pattern sent xs x-due i (omega arith) h ∙ same (λ k hk g. alike n k hk g) (omega arith) ∙ sym (due pattern sent ys y-due i (omega arith) (omega arith))
      ]
    where
      same : ((k : ℕ) → k < n → k < length xs → get_or xs k 0 ≡ get_or ys k 0) → pattern ≤ i → due_at pattern sent xs i ≡ due_at pattern sent ys i
      same earlier low =
          elim (ℕ_discrete pattern 0) [
            | yes z ↦ rw (eq-eqb pattern 0 z)
            | no z ↦ rw (ne_eqb pattern 0 z, earlier (i - stage_of pattern) (omega (arith, stage-least pattern z)) (omega arith), earlier (i - pattern) (omega arith) (omega arith))
          ]

  pub begins : Begins xs ys
  begins =
      let n = length xs in
      tab-of xs n (λ (i : ℕ). get_or ys i 0) refl (λ i h. alike (suc i) i (omega arith) h)
      ∙ sym (tab-of (take n ys) n (λ (i : ℕ). get_or ys i 0) (length-take n ys ∙ omega arith) (λ i h. get_or-take n ys i 0 h))

-- readings of one line begin alike
module _ (level : ℕ) (q : Question) (ok : JudgeAccepted level q) (row : Row) (e : level_of level ≡ Some row) (j : ℕ) (hj : j < 4) (v w : List ℕ) where
  abbrev F : ℕ
  F = length (majorities row q.line)

  abbrev acts : List ℕ → ℕ → Action
  acts votes = actions row (get_or votes 0 0) (drop 1 votes) j

  taken : (votes : List ℕ) → read_by row q.line votes j ≡ map (λ (p : ℕ). get_or (digits_of q.line) p 0) (places_of row (acts votes) j (F * columns row))
  unfolding read_by taken_to
  taken votes = rw (judged-places level q row e ok)

  at : (votes : List ℕ) (i : ℕ) → i < 23 → i < length (read_by row q.line votes j) → get_or (read_by row q.line votes j) i 0 ≡ get_or (digits_of q.line) (4 * (row.first / 4 + i) + j) 0
  unfolding before
  at votes i few h =
      let ps = places_of row (acts votes) j (F * columns row) in
      let g : ℕ → ℕ = λ (p : ℕ). get_or (digits_of q.line) p 0 in
      let long : i < length ps = subst (λ (n : ℕ). i < n) (ap length (taken votes) ∙ length-map ps g) h in
      ap (λ (l : List ℕ). get_or l i 0) (taken votes) ∙ map_at g ps i long ∙ ap g (stands-first row (shared level row e) (rw e at (roomy level)) F j hj (frames long) (acts votes) i few)
    where
      frames : i < length (places_of row (acts votes) j (F * columns row)) → 0 < F
      frames l =
          elim (ℕ_discrete F 0) [
            | yes z ↦
                let no-column : F * columns row ≡ 0 = ap (λ (n : ℕ). n * columns row) z ∙ zero-mul (columns row) in
                absurd (none (subst (λ (n : ℕ). i < n) (places-length row (acts votes) j (F * columns row) ∙ ap (before row (acts votes) j) no-column) l))
            | no z ↦ omega arith
          ]
        where
          none : i < 0 → ⊥
          none h = omega arith

  pub begins-on : ReadsRight row q v j → ReadsRight row q w j → length (read_by row q.line v j) ≤ length (read_by row q.line w j) → Begins (read_by row q.line v j) (read_by row q.line w j)
  begins-on right-v right-w shorter =
      begins q.pattern (digits_of (quarter_of q.buffer j)) (read_by row q.line v j) (read_by row q.line w j) right-v right-w shorter
      (λ i few h. at v i (omega (arith, known-pattern level q row e ok)) h ∙ sym (at w i (omega (arith, known-pattern level q row e ok)) (omega arith)))

-- "If two readings fit, the digits of one are the beginning of the other's"
pub one-begins : (level : ℕ) (q : Question) (j : ℕ) → JudgeAccepted level q → j < 4 → OneBegins level q j
one-begins level q j ok hj =
    let on = judge-level level q ok in
    rw on.1 (λ v w right-v right-w shorter. begins-on level q ok on.0 on.1 j hj v w right-v right-w shorter)
