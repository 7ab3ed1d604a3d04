-- What the answer says: a reading whose digits are what was sent has no wrong one and fits; and of which line each number speaks.
use Rattle.std.specs.Prelude.{Some}
use mathlib.Core.Path.{◌≡◌, refl, sym, ◌∙◌, ap}
use mathlib.Core.Logic.{◌≢◌}
use mathlib.Core.Bool.{Bool, cond, true, false, true≢false, not, ◌||◌}
use mathlib.Core.List.{List}
use Prim.Native.Nat.{ℕ, zero, ◌+◌, ◌*◌, ◌-◌, ◌/◌, ◌%◌, ◌≤◌, ◌<◌, min}
use native.Mathlib.Omega.{arith}
use native.Mathlib.Nat.{mul_left_comm, div-add-mod'}
use native.Mathlib.Decide.{ℕ_discrete}
use lib.Dec.{eqb}
use lib.ListN.{length, get_or, take, length-take}
use lib.Seq.{get_or-take}
use borrow.Author.Tests.{eq-eqb, ne_eqb, eqb-true}
use Rattle.digits.specs.Digits.{digits_of}
use Rattle.digits.specs.Sums.{sum_to}
use Rattle.digits.proofs.Laws.{tab-length}
use Rattle.digits.proofs.Lists.{of_four}
use Rattle.digits.proofs.Sums.{sum-all}
use Rattle.table.specs.declared.Row.{Row}
use Rattle.table.specs.Table.{level_of}
use Rattle.levels.specs.Sizes.{frames_of, bad_line, quarter_of}
use Rattle.levels.proofs.Columns.{columns}
use Rattle.levels.proofs.Judged.{unrefused, line-frames}
use Rattle.promises.proofs.Accepted.{some_level, zero-refusal, shared}
use Rattle.judge.specs.Verdict.{Judged}
use Rattle.judge.specs.Readings.{majorities, read_by}
use Rattle.judge.specs.Wrong.{stage_of, due_at, wrong_at, wrong_in}
use Rattle.judge.specs.Verdict.{own_wrong, before_wrong, after_wrong, fitting, four, judgement, bad_pattern, number_of, refused_with, judged_on}
use Rattle.judge_promises.specs.Verdicts.{Index, right, late, early, acts_on, AsSent, Question, verdict, JudgeAccepted, Fits}
use Rattle.judge_promises.proofs.Readings.{tried}

-- ---- wrong digits

-- a sum of none
sum-none : (n : ℕ) (g : ℕ → ℕ) → ((i : ℕ) → i < n → g i ≡ 0) → sum_to n g ≡ 0
sum-none n g none = sum-all n 0 g none ∙ omega arith

-- the digits of a pattern that are fed back are earlier ones
pub stage-least : (pattern : ℕ) → pattern ≢ 0 → 0 < stage_of pattern
stage-least pattern n = go (eqb pattern 15)
  where
    go : (t : Bool) → 0 < cond t 14 18
    go true = omega arith
    go false = omega arith

-- the first n digits of what was sent have no wrong one
pub none_wrong : (pattern n : ℕ) (sent ds : List ℕ) → AsSent pattern sent ds → n ≤ length ds → wrong_in pattern sent (take n ds) ≡ 0
unfolding wrong_in due_at
none_wrong pattern n sent ds meets room =
    sum-none (length (take n ds) - pattern) (λ (k : ℕ). wrong_at pattern sent (take n ds) (pattern + k))
    (λ k h. at k (omega (arith, length-take n ds)))
  where
    digit : (i : ℕ) → i < n → get_or (take n ds) i 0 ≡ get_or ds i 0
    digit i h = get_or-take n ds i 0 h

    due : (i : ℕ) → pattern ≤ i → i < n → due_at pattern sent (take n ds) i ≡ due_at pattern sent ds i
    due i low h =
        elim (ℕ_discrete pattern 0) [
          | yes z ↦ rw (eq-eqb pattern 0 z)
          | no z ↦ rw (ne_eqb pattern 0 z, digit (i - stage_of pattern) (omega (arith, stage-least pattern z)), digit (i - pattern) (omega arith))
        ]

    at : (k : ℕ) → pattern + k < n → wrong_at pattern sent (take n ds) (pattern + k) ≡ 0
    at k h =
        let i = pattern + k in
        let same : get_or (take n ds) i 0 ≡ due_at pattern sent (take n ds) i =
        digit i h ∙ meets i (omega arith) (omega arith) ∙ sym (due i (omega arith) h) in
        rw (eq-eqb (get_or (take n ds) i 0) (due_at pattern sent (take n ds) i) same)

-- ---- the numbers of the answer

-- of four numbers
pub four-at : (g : ℕ → ℕ) (j : ℕ) → j < 4 → get_or (four g) j 0 ≡ g j
four-at g = of_four (λ (j : ℕ). get_or (four g) j 0 ≡ g j) refl refl refl refl

-- which readings fit: each number is had where its reading has no wrong digit
fits-own : (before after : ℕ) → fitting 0 before after / 1 % 2 ≡ 1
unfolding fitting
fits-own before after = go (eqb before 0) (eqb after 0)
  where
    go : (t u : Bool) → (1 + cond t 2 0 + cond u 4 0) / 1 % 2 ≡ 1
    go true true = refl
    go true false = refl
    go false true = refl
    go false false = refl

fits-before : (own after : ℕ) → fitting own 0 after / 2 % 2 ≡ 1
unfolding fitting
fits-before own after = go (eqb own 0) (eqb after 0)
  where
    go : (t u : Bool) → (cond t 1 0 + 2 + cond u 4 0) / 2 % 2 ≡ 1
    go true true = refl
    go true false = refl
    go false true = refl
    go false false = refl

fits_after : (own before : ℕ) → fitting own before 0 / 4 % 2 ≡ 1
unfolding fitting
fits_after own before = go (eqb own 0) (eqb before 0)
  where
    go : (t u : Bool) → (cond t 1 0 + cond u 2 0 + 4) / 4 % 2 ≡ 1
    go true true = refl
    go true false = refl
    go false true = refl
    go false false = refl

-- the fewer of two is none where either is
min-left : (a b : ℕ) → a ≡ 0 → min a b ≡ 0
min-left a b e = omega (arith, e)

min-right : (a b : ℕ) → b ≡ 0 → min a b ≡ 0
min-right a b e = omega (arith, e)

-- an accepted question is answered on its level's row
module _ (level : ℕ) (q : Question) where
  pub judge-level : JudgeAccepted level q → (row : Row) × (level_of level ≡ Some row)
  judge-level ok =
      some_level (λ (r : Judged). r.refusal ≡ 0) (level_of level) (λ (row : Row). judged_on row q.earlier q.line q.pattern q.buffer) (refused_with 1) (λ e. omega arith) ok

  module _ (row : Row) (e : level_of level ≡ Some row) (ok : JudgeAccepted level q) where
    abbrev number : ℕ
    number = number_of row q.earlier (length q.line) q.pattern (length q.buffer)

    pub no_number : number ≡ 0
    no_number = zero-refusal (λ (r : Judged). r.refusal) number (judgement row q.earlier q.line q.pattern q.buffer) (refused_with number) refl (rw e at ok)

    pub known-pattern : q.pattern ≤ 23
    unfolding number_of
    known-pattern = go (eqb q.pattern 0) (eqb q.pattern 15) (eqb q.pattern 23) refl refl refl (unrefused (bad_pattern q.pattern) 13 _ (λ z. omega arith) no_number).0
      where
        go : (a b c : Bool) → eqb q.pattern 0 ≡ a → eqb q.pattern 15 ≡ b → eqb q.pattern 23 ≡ c → not (a || (b || c)) ≡ false → q.pattern ≤ 23
        go true b c ea eb ec n = omega (arith, eqb-true q.pattern 0 ea)
        go false true c ea eb ec n = omega (arith, eqb-true q.pattern 15 eb)
        go false false true ea eb ec n = omega (arith, eqb-true q.pattern 23 ec)
        go false false false ea eb ec n = absurd (true≢false n)

    -- its line is whole frames, and so many columns
    pub judged-places : 2 * length q.line ≡ length (majorities row q.line) * columns row
    unfolding number_of
    judged-places =
        let pattern = unrefused (bad_pattern q.pattern) 13 _ (λ z. omega arith) no_number in
        let two = unrefused (bad_line row (length q.line)) 2 _ (λ z. omega arith) pattern.1 in
        let whole = (line-frames row (length q.line) two.0).0 in
        let F = frames_of row (length q.line) in
        let bytes : length q.line ≡ F * row.bytes = omega (arith, div-add-mod' (length q.line) row.bytes, whole) in
        let half : columns row ≡ 2 * row.bytes = omega (arith, (shared level row e).packed) in
        rw tab-length (ap (λ (k : ℕ). 2 * k) bytes ∙ mul_left_comm 2 F row.bytes ∙ ap (λ (k : ℕ). F * k) (sym half))

    pub answers : verdict level q ≡ judgement row q.earlier q.line q.pattern q.buffer
    answers = rw (e, eq-eqb number 0 no_number)

-- the wrong digits of a reading by an index's votes
abbrev pub wrong_index : Row → Question → Index → ℕ → ℕ → ℕ
wrong_index row q index unknown j =
    wrong_in q.pattern (digits_of (quarter_of q.buffer j)) (read_by row q.line (acts_on row index q.earlier (majorities row q.line) unknown) j)

-- where it has none for one of the votes that are tried, the answer says that it fits
pub none-fits : (level : ℕ) (row : Row) (e : level_of level ≡ Some row) (q : Question) → JudgeAccepted level q → (index : Index) (t : Bool) (j : ℕ) → j < 4
    → wrong_index row q index (tried t) j ≡ 0 → Fits index (verdict level q) j
unfolding judgement own_wrong before_wrong after_wrong
none-fits level row e q ok index t j hj none = rw (answers level q row e ok) (go index t none)
  where
    own : ℕ → ℕ
    own = own_wrong row q.earlier q.line q.pattern q.buffer

    before : ℕ → ℕ
    before = before_wrong row q.earlier q.line q.pattern q.buffer

    after : ℕ → ℕ
    after = after_wrong row q.line q.pattern q.buffer

    answer : Judged
    answer = judgement row q.earlier q.line q.pattern q.buffer

    fits : ℕ → ℕ
    fits j = fitting (own j) (before j) (after j)

    by_before : before j ≡ 0 → Fits late answer j
    by_before z =
        record {
          none_wrong = four-at before j hj ∙ z;
          said = ap (λ (n : ℕ). n / 2 % 2) (four-at fits j hj ∙ ap (λ (n : ℕ). fitting (own j) n (after j)) z) ∙ fits-before (own j) (after j);
        }

    by_after : after j ≡ 0 → Fits early answer j
    by_after z =
        record {
          none_wrong = four-at after j hj ∙ z;
          said = ap (λ (n : ℕ). n / 4 % 2) (four-at fits j hj ∙ ap (λ (n : ℕ). fitting (own j) (before j) n) z) ∙ fits_after (own j) (before j);
        }

    go : (index : Index) (t : Bool) → wrong_index row q index (tried t) j ≡ 0 → Fits index answer j
    go right t z =
        record {
          none_wrong = four-at own j hj ∙ z;
          said = ap (λ (n : ℕ). n / 1 % 2) (four-at fits j hj ∙ ap (λ (n : ℕ). fitting n (before j) (after j)) z) ∙ fits-own (before j) (after j);
        }
    go late true z = by_before (min-right _ _ z)
    go late false z = by_before (min-left _ _ z)
    go early true z = by_after (min-right _ _ z)
    go early false z = by_after (min-left _ _ z)
