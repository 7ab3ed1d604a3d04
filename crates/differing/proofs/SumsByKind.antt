-- The fifteen sums over stretches of places: places that all count in one sum, and columns of which each tributary's place counts in its own. And
-- which sum the places of a set count in, by its head and its run.
use mathlib.Core.Path.{◌≡◌, refl, sym, ◌∙◌, ap}
use mathlib.Core.Logic.{◌≢◌}
use mathlib.Core.Bool.{cond, false, ◌&&◌}
use mathlib.Core.List.{List}
use Prim.Native.Nat.{ℕ, zero, suc, ◌+◌, ◌-◌, ◌*◌, ◌/◌, ◌%◌, ◌^◌, ◌≤◌, ◌<◌}
use native.Mathlib.Omega.{arith}
use native.Mathlib.Decide.{dec_lt}
use native.Mathlib.Nat.{mul_left_comm, add-mul, mul-le-mul_right}
use lib.Dec.{eqb}
use lib.ListN.{length, get_or, replicate}
use lib.Seq.{ext_get_or}
use borrow.Author.Tests.{eq-eqb, ne_eqb, lt-ltb, le-ltb}
use Rattle.digits.specs.Sums.{sum_to}
use Rattle.table.specs.declared.Row.{Row}
use Rattle.levels.specs.declared.places.Kind.{Kind}
use Rattle.levels.specs.declared.places.Kind.TheVariants.{Word, Service, Control, Tributary}
use Rattle.levels.specs.Table.{Shared}
use Rattle.levels.specs.Sizes.{frames_of}
use Rattle.levels.specs.Places.{noted_digit, noted_of, service_digit, head_end, kind_of}
use Rattle.levels.proofs.Positions.{pos-unique}
use Rattle.levels.proofs.Ways.{kind-word, kind-service, kind-noted, kind-control, kind-negative, kind-positive, kind-fixed}
use Rattle.levels.proofs.Runs.{past_head, head-end-fours, head-end-in, head-end-short}
use Rattle.tally.specs.Tally.{service_number, sum_number, number_at, sum_of, sums_of, differ_at}
use Rattle.tally.proofs.Sums.{sums-length, sums_at, sums_same, sums_none, sum-small, adds-up}
use Rattle.differing.specs.Differing.{listed_on}
use Rattle.differing.specs.Counting.{Lines, InFrame, SumsTo, EqualBytes, Counted}
use Rattle.masks.specs.Masks.{Even, unit_at, all_from, columns_of, added, added_four}
use Rattle.differing.proofs.Walking.{equal-digits}
use Rattle.masks.proofs.Added.{on, on_none, on-more, on-unit, added-at, added-length}

module _ (row : Row) (one other : List ℕ) where
  -- ---- n places that count in sum m

  sum-kind : (p n m k : ℕ) → ((i : ℕ) → i < n → number_at row (p + i) ≡ m)
      → sum_of row (differ_at one other) (p + n) k ≡ sum_of row (differ_at one other) p k + on m k (all_from one other p n)
  unfolding sum_to
  sum-kind p zero m k is = let e : p + 0 ≡ p = omega arith in rw (e, on_none m k) (omega arith)
  sum-kind p (suc n) m k is =
      let e : p + suc n ≡ suc (p + n) = omega arith in
      let so_far = sum-kind p n m k (λ i h. is i (omega arith)) in
      rw (e, is n (omega arith), on-unit (differ_at one other (p + n)) (eqb m k), on-more m k (all_from one other p n) (unit_at one other (p + n)))
      (omega (arith, so_far))

  pub sums-kind : (p n m : ℕ) (sums : List ℕ) → m < 15 → ((i : ℕ) → i < n → number_at row (p + i) ≡ m) → SumsTo row one other p sums
      → SumsTo row one other (p + n) (added sums m (all_from one other p n))
  sums-kind p n m sums few is e =
      let test = differ_at one other in
      let long : length sums ≡ 15 = ap length e ∙ sums-length row test p in
      let v = all_from one other p n in
      ext_get_or 0 (added sums m v) (sums_of row test (p + n)) (added-length sums m v ∙ long ∙ sym (sums-length row test (p + n)))
      (λ k h.
      let hk : k < 15 = omega (arith, h, added-length sums m v, long) in
      added-at sums m v k (omega (arith, long))
      ∙ rw (e, sums_at row test p k hk) (sym (sum-kind p n m k is))
      ∙ sym (sums_at row test (p + n) k hk))

  -- ---- k columns, tributary j's places in sum base + 3 j

  abbrev Columns : ℕ → ℕ → ℕ → Type 0
  Columns p k base = (c : ℕ) → c < k → (j : ℕ) → j < 4 → number_at row (p + 4 * c + j) ≡ base + 3 * j

  abbrev fours : ℕ → ℕ → ℕ → ℕ → ℕ
  fours p base m k =
      on base m (columns_of one other p 0 k)
      + on (base + 3) m (columns_of one other p 1 k)
      + on (base + 6) m (columns_of one other p 2 k)
      + on (base + 9) m (columns_of one other p 3 k)

  sum-columns : (p base m k : ℕ) → Columns p k base
      → sum_of row (differ_at one other) (p + 4 * k) m ≡ sum_of row (differ_at one other) p m + fours p base m k
  unfolding sum_to
  sum-columns p base m zero is =
      let e : p + 4 * 0 ≡ p = omega arith in
      rw (e, on_none base m, on_none (base + 3) m, on_none (base + 6) m, on_none (base + 9) m) (omega arith)
  sum-columns p base m (suc k) is =
      let test = differ_at one other in
      let q = p + 4 * k in
      let end : p + 4 * suc k ≡ suc (suc (suc (suc q))) = omega arith in
      let e0 : q ≡ q + 0 = omega arith in
      let e1 : suc q ≡ q + 1 = omega arith in
      let e2 : suc (suc q) ≡ q + 2 = omega arith in
      let e3 : suc (suc (suc q)) ≡ q + 3 = omega arith in
      let n0 : number_at row (q + 0) ≡ base = is k (omega arith) 0 (omega arith) ∙ (let z : base + 3 * 0 ≡ base = omega arith in z) in
      let n1 : number_at row (q + 1) ≡ base + 3 = is k (omega arith) 1 (omega arith) in
      let n2 : number_at row (q + 2) ≡ base + 6 = is k (omega arith) 2 (omega arith) in
      let n3 : number_at row (q + 3) ≡ base + 9 = is k (omega arith) 3 (omega arith) in
      let so_far = sum-columns p base m k (λ c h. is c (omega arith)) in
      let step : sum_of row test (suc (suc (suc (suc q)))) m
      ≡ sum_of row test q m + on base m (unit_at one other (q + 0)) + on (base + 3) m (unit_at one other (q + 1)) + on (base + 6) m (unit_at one other (q + 2))
      + on (base + 9) m (unit_at one other (q + 3))
      = last-four q base m e0 e1 e2 e3 n0 n1 n2 n3 in
      rw (
        end,
        step,
        on-more base m (columns_of one other p 0 k) (unit_at one other (q + 0)),
        on-more (base + 3) m (columns_of one other p 1 k) (unit_at one other (q + 1)),
        on-more (base + 6) m (columns_of one other p 2 k) (unit_at one other (q + 2)),
        on-more (base + 9) m (columns_of one other p 3 k) (unit_at one other (q + 3)),
      ) (omega (arith, so_far))
    where
      one_of : (x y b m : ℕ) → x ≡ y → number_at row y ≡ b → cond {A = ℕ} (differ_at one other x && eqb (number_at row x) m) 1 0 ≡ on b m (unit_at one other y)
      one_of x y b m e n = rw (e, n) (on-unit (differ_at one other y) (eqb b m))

      last-four : (q base m : ℕ) → q ≡ q + 0 → suc q ≡ q + 1 → suc (suc q) ≡ q + 2 → suc (suc (suc q)) ≡ q + 3 → number_at row (q + 0) ≡ base
          → number_at row (q + 1) ≡ base + 3 → number_at row (q + 2) ≡ base + 6 → number_at row (q + 3) ≡ base + 9
          → sum_of row (differ_at one other) (suc (suc (suc (suc q)))) m
          ≡ sum_of row (differ_at one other) q m + on base m (unit_at one other (q + 0)) + on (base + 3) m (unit_at one other (q + 1))
          + on (base + 6) m (unit_at one other (q + 2))
          + on (base + 9) m (unit_at one other (q + 3))
      last-four q base m e0 e1 e2 e3 n0 n1 n2 n3 =
          let a = one_of q (q + 0) base m e0 n0 in
          let b = one_of (suc q) (q + 1) (base + 3) m e1 n1 in
          let c = one_of (suc (suc q)) (q + 2) (base + 6) m e2 n2 in
          let d = one_of (suc (suc (suc q))) (q + 3) (base + 9) m e3 n3 in
          omega (arith, a, b, c, d)

  pub sums-columns : (p k base : ℕ) (sums : List ℕ) → base ≤ 5 → Columns p k base → SumsTo row one other p sums
      → SumsTo row one other (p + 4 * k) (added_four sums base (λ (j : ℕ). columns_of one other p j k))
  sums-columns p k base sums few is e =
      let test = differ_at one other in
      let long : length sums ≡ 15 = ap length e ∙ sums-length row test p in
      let a = added sums base (columns_of one other p 0 k) in
      let b = added a (base + 3) (columns_of one other p 1 k) in
      let c = added b (base + 6) (columns_of one other p 2 k) in
      let d = added c (base + 9) (columns_of one other p 3 k) in
      let la : length a ≡ 15 = added-length sums base (columns_of one other p 0 k) ∙ long in
      let lb : length b ≡ 15 = added-length a (base + 3) (columns_of one other p 1 k) ∙ la in
      let lc : length c ≡ 15 = added-length b (base + 6) (columns_of one other p 2 k) ∙ lb in
      let ld : length d ≡ 15 = added-length c (base + 9) (columns_of one other p 3 k) ∙ lc in
      ext_get_or 0 d (sums_of row test (p + 4 * k)) (ld ∙ sym (sums-length row test (p + 4 * k)))
      (λ m h.
      let hm : m < 15 = omega (arith, h, ld) in
      let xa = added-at sums base (columns_of one other p 0 k) m (omega (arith, long)) in
      let xb = added-at a (base + 3) (columns_of one other p 1 k) m (omega (arith, la)) in
      let xc = added-at b (base + 6) (columns_of one other p 2 k) m (omega (arith, lb)) in
      let xd = added-at c (base + 9) (columns_of one other p 3 k) m (omega (arith, lc)) in
      let was : get_or sums m 0 ≡ sum_of row test p m = ap (λ (l : List ℕ). get_or l m 0) e ∙ sums_at row test p m hm in
      let all : get_or d m 0 ≡ sum_of row test (p + 4 * k) m = omega (arith, xa, xb, xc, xd, was, sum-columns p base m k is) in
      all ∙ sym (sums_at row test (p + 4 * k) m hm))

  -- ---- bounds, and places that do not differ

  pub sums-few : (n : ℕ) (sums : List ℕ) → n ≤ 524288 → SumsTo row one other n sums → (k : ℕ) → get_or sums k 0 < 2 ^ 59
  sums-few n sums h e k = rw e (omega (arith, sum-small row (differ_at one other) n k))

  pub sums-pass : (k p : ℕ) (sums : List ℕ) → ((q : ℕ) → p ≤ q → q < p + k → differ_at one other q ≡ false) → SumsTo row one other p sums
      → SumsTo row one other (p + k) sums
  sums-pass zero p sums same e = let z : p + 0 ≡ p = omega arith in rw z e
  sums-pass (suc k) p sums same e =
      let z : p + suc k ≡ p + 1 + k = omega arith in
      rw z
      (sums-pass k (p + 1) sums (λ q l h. same q (omega arith) (omega arith))
      (e ∙ sym (sums_same row (differ_at one other) p (same p (omega arith) (omega arith)))))

-- ---- which sum the places of a set count in

noted-two : (k : ℕ) → service_number (noted_digit (suc k)) ≡ 2
noted-two zero = refl
noted-two (suc zero) = refl
noted-two (suc (suc k)) = refl

module _ (row : Row) (sh : Shared row) where
  set-start : (s : ℕ) → s * row.set ≡ 4 * (s * (row.set / 4))
  set-start s =
      let four : row.set ≡ 4 * (row.set / 4) = omega (arith, sh.set_fours) in
      ap (λ (k : ℕ). s * k) four ∙ mul_left_comm s 4 (row.set / 4)

  frame-start : (f : ℕ) → f * row.digits ≡ 4 * (f * (row.digits / 4))
  frame-start f =
      let four : row.digits ≡ 4 * (row.digits / 4) = omega (arith, sh.packed) in
      ap (λ (k : ℕ). f * k) four ∙ mul_left_comm f 4 (row.digits / 4)

  number_of : (p f s r : ℕ) → p ≡ f * row.digits + (s * row.set + r) → s < row.sets → r < row.set → number_at row p ≡ sum_number (kind_of row s r) (r % 4)
  unfolding number_at
  number_of p f s r e hs hr =
      let same : p % 4 ≡ r % 4 = omega (arith, e, frame-start f, set-start s) in
      let at = rw (← e) at (pos-unique row sh f s r hs hr) in
      rw (at, same) refl

  by_kind : (p f s r : ℕ) (kind : Kind) → p ≡ f * row.digits + (s * row.set + r) → s < row.sets → r < row.set → kind_of row s r ≡ kind
      → number_at row p ≡ sum_number kind (r % 4)
  by_kind p f s r kind e hs hr is = number_of p f s r e hs hr ∙ ap (λ (k : Kind). sum_number k (r % 4)) is

  service-two : (k : ℕ) → row.alarms ≤ k → service_number (service_digit row k) ≡ 2
  service-two k h =
      elim (dec_lt k (noted_of row)) [
        | yes l ↦ rw (lt-ltb k (noted_of row) l) (noted k (omega (arith, sh.few_national, h, l)))
        | no l ↦ rw (le-ltb k (noted_of row) (omega arith)) refl
      ]
    where
      noted : (k : ℕ) → 0 < k → service_number (noted_digit k) ≡ 2
      noted zero h = absurd (never h)
        where
          never : 0 < 0 → ⊥
          never h = omega arith
      noted (suc k) h = noted-two k

  -- the head of the first set
  module _ (f : ℕ) where
    pub number_word : (i : ℕ) → i < row.len → number_at row (f * row.digits + i) ≡ 0
    number_word i h =
        by_kind (f * row.digits + i) f 0 i Word (omega arith) (omega (arith, sh.later_set)) (omega (arith, sh.room, sh.alarm_next, sh.national_next, sh.first_next))
        (kind-word row sh i h)

    pub number-alarm : (i : ℕ) → i < row.alarms → number_at row (f * row.digits + row.len + i) ≡ 1
    number-alarm i h =
        let z : i ≡ 0 = omega (arith, sh.few_alarm) in
        let k = kind-noted row sh i (omega arith) in
        by_kind (f * row.digits + row.len + i) f 0 (row.len + i) (Service (noted_digit i)) (omega arith) (omega (arith, sh.later_set))
        (omega (arith, sh.room, sh.alarm_next, sh.national_next, sh.first_next)) k
        ∙ rw z refl

    pub number-national : (i : ℕ) → i < row.first - (row.len + row.alarms) → number_at row (f * row.digits + row.len + row.alarms + i) ≡ 2
    number-national i h =
        let k = row.alarms + i in
        by_kind (f * row.digits + row.len + row.alarms + i) f 0 (row.len + k) (Service (service_digit row k)) (omega arith) (omega (arith, sh.later_set))
        (omega (arith, sh.room)) (kind-service row sh k (omega arith))
        ∙ service-two k (omega arith)

    -- a later set
    module _ (s : ℕ) (hs : s < row.sets) where
      pub number-control : 0 < s → (c : ℕ) → c < 1 → (j : ℕ) → j < 4 → number_at row (f * row.digits + s * row.set + 4 * c + j) ≡ 3 + 3 * j
      number-control later c hc j hj =
          let k = kind-control row sh s later j hj in
          let m : j % 4 ≡ j = omega arith in
          by_kind (f * row.digits + s * row.set + 4 * c + j) f s j Control (omega arith) hs (omega (arith, sh.room)) k ∙ rw m refl

      justified : 0 < s → s + 1 ≡ row.sets → (r : ℕ) → 4 ≤ r → r < row.last → sum_number (kind_of row s r) (r % 4) ≡ 4 + 3 * (r % 4)
      justified later end r lo hi =
          elim (dec_lt r (row.last - 4)) [
            | yes l ↦ rw (kind-negative row sh s later end r lo l) refl
            | no l ↦ rw (kind-positive row sh s later end r (omega arith) hi) refl
          ]

      pub number-justification : 0 < s → s + 1 ≡ row.sets → (c : ℕ) → c < (row.last - 4) / 4 → (j : ℕ) → j < 4
          → number_at row (f * row.digits + s * row.set + 4 + 4 * c + j) ≡ 4 + 3 * j
      number-justification later end c hc j hj =
          let r = 4 + 4 * c + j in
          let m : r % 4 ≡ j = omega arith in
          number_of (f * row.digits + s * row.set + 4 + 4 * c + j) f s r (omega arith) hs (omega (arith, sh.last_room)) ∙ justified later end r (omega arith) (omega arith)
          ∙ rw m refl

      pub number-fixed : 0 < s → s + 1 ≢ row.sets → (i : ℕ) → i < row.middle - 4 → number_at row (f * row.digits + s * row.set + 4 + i) ≡ 2
      number-fixed later between i h =
          by_kind (f * row.digits + s * row.set + 4 + i) f s (4 + i) _ (omega arith) hs (omega (arith, sh.room, sh.middle_most)) (kind-fixed row sh s later between (4 + i) (omega arith) (omega arith))

      -- and the run of any
      pub number-run : (c : ℕ) → c < (row.set - head_end row s) / 4 → (j : ℕ) → j < 4
          → number_at row (f * row.digits + s * row.set + head_end row s + 4 * c + j) ≡ 5 + 3 * j
      number-run c hc j hj =
          let r = head_end row s + 4 * c + j in
          let m : r % 4 ≡ j = omega (arith, head-end-fours row sh s) in
          by_kind (f * row.digits + s * row.set + head_end row s + 4 * c + j) f s r Tributary (omega arith) hs (omega arith) (past_head row sh s r (omega arith)) ∙ rw m refl

-- ---- set by set

pub head-short : (row : Row) → Shared row → row.first ≤ 16
unfolding head_end
head-short row sh = head-end-short row sh 0

-- the first set begins with its frame
pub first-place : (row : Row) (one other : List ℕ) (f s : ℕ) (sums : List ℕ) → s ≡ 0 → SumsTo row one other (f * row.digits + s * row.set) sums
    → SumsTo row one other (f * row.digits) sums
first-place row one other f s sums z e =
    let same : f * row.digits + s * row.set ≡ f * row.digits = rw z (omega arith) in
    rw same at e

pub first-end : (row : Row) (one other : List ℕ) (f s : ℕ) (sums : List ℕ) → s ≡ 0 → SumsTo row one other (f * row.digits + row.first) sums
    → SumsTo row one other (f * row.digits + s * row.set + head_end row s) sums
unfolding head_end
first-end row one other f s sums z e =
    let same : f * row.digits + row.first ≡ f * row.digits + s * row.set + row.first = rw z (omega arith) in
    rw (eq-eqb s 0 z) (rw same at e)

pub first-set : (row : Row) (one other : List ℕ) (f : ℕ) (sums : List ℕ) → SumsTo row one other (f * row.digits) sums
    → SumsTo row one other (f * row.digits + 0 * row.set) sums
first-set row one other f sums e = let same : f * row.digits ≡ f * row.digits + 0 * row.set = omega arith in rw same at e

pub next-set : (row : Row) (one other : List ℕ) (f s : ℕ) (sums : List ℕ) → SumsTo row one other (f * row.digits + s * row.set + row.set) sums
    → SumsTo row one other (f * row.digits + (s + 1) * row.set) sums
next-set row one other f s sums e =
    let same : f * row.digits + s * row.set + row.set ≡ f * row.digits + (s + 1) * row.set = omega (arith, add-mul s 1 row.set) in
    rw same at e

pub last_set : (row : Row) (one other : List ℕ) → Lines row one other → (f s : ℕ) (sums : List ℕ) → s ≡ row.sets
    → SumsTo row one other (f * row.digits + s * row.set) sums → SumsTo row one other ((f + 1) * row.digits) sums
last_set row one other l f s sums end e =
    let whole : s * row.set ≡ row.digits = ap (λ (n : ℕ). n * row.set) end ∙ sym l.shared.whole in
    let same : f * row.digits + s * row.set ≡ (f + 1) * row.digits = omega (arith, whole, add-mul f 1 row.digits) in
    rw same at e

module _ (row : Row) (one other : List ℕ) (l : Lines row one other) where
  sh : Shared row
  sh = l.shared

  pub even : Even one other
  even = record { same_length = l.same_length; short = l.short }

  module _ (f : ℕ) (inside : InFrame row one f) where
    pub frame-inside : f * row.digits + row.digits ≤ 8 * length one
    frame-inside = omega (arith, inside, add-mul f 1 row.digits)

    pub set-inside : (s : ℕ) → s < row.sets → f * row.digits + s * row.set + row.set ≤ 8 * length one
    set-inside s hs =
        let some : (s + 1) * row.set ≤ row.sets * row.set = mul-le-mul_right {m = s + 1} {n = row.sets} row.set (omega arith) in
        omega (arith, some, sh.whole, frame-inside, add-mul s 1 row.set)

    pub few-sums : (n : ℕ) (sums : List ℕ) → n ≤ 8 * length one → SumsTo row one other n sums → (k : ℕ) → get_or sums k 0 < 2 ^ 62
    few-sums n sums h e k = omega (arith, sums-few row one other n sums (omega (arith, h, l.short)) e k)

    module _ (sums next : List ℕ) where
      pub word-sums : SumsTo row one other (f * row.digits) sums → next ≡ added sums 0 (all_from one other (f * row.digits) row.len)
          → SumsTo row one other (f * row.digits + row.len) next
      word-sums e is = is ∙ sums-kind row one other (f * row.digits) row.len 0 sums (omega arith) (number_word row sh f) e

      pub alarm-sums : SumsTo row one other (f * row.digits + row.len) sums
          → next ≡ added sums 1 (all_from one other (f * row.digits + row.len) row.alarms)
          → SumsTo row one other (f * row.digits + row.len + row.alarms) next
      alarm-sums e is = is ∙ sums-kind row one other (f * row.digits + row.len) row.alarms 1 sums (omega arith) (number-alarm row sh f) e

      pub national-sums : SumsTo row one other (f * row.digits + row.len + row.alarms) sums
          → next ≡ added sums 2 (all_from one other (f * row.digits + row.len + row.alarms) (row.first - (row.len + row.alarms)))
          → SumsTo row one other (f * row.digits + row.first) next
      national-sums e is =
          let p = f * row.digits + row.len + row.alarms in
          let n = row.first - (row.len + row.alarms) in
          let end : p + n ≡ f * row.digits + row.first = omega (arith, sh.alarm_next, sh.national_next, sh.first_next) in
          rw end at (is ∙ sums-kind row one other p n 2 sums (omega arith) (number-national row sh f) e)

      module _ (s : ℕ) (hs : s < row.sets) where
        pub control-sums : 0 < s → SumsTo row one other (f * row.digits + s * row.set) sums
            → next ≡ added_four sums 3 (λ (j : ℕ). columns_of one other (f * row.digits + s * row.set) j 1)
            → SumsTo row one other (f * row.digits + s * row.set + 4) next
        control-sums later e is = is ∙ sums-columns row one other (f * row.digits + s * row.set) 1 3 sums (omega arith) (number-control row sh f s hs later) e

        pub justification-sums : 0 < s → s ≡ row.sets - 1 → SumsTo row one other (f * row.digits + s * row.set + 4) sums
            → next ≡ added_four sums 4 (λ (j : ℕ). columns_of one other (f * row.digits + s * row.set + 4) j ((row.last - 4) / 4))
            → SumsTo row one other (f * row.digits + s * row.set + head_end row s) next
        unfolding head_end
        justification-sums later end e is =
            let p = f * row.digits + s * row.set + 4 in
            let k = (row.last - 4) / 4 in
            let last : p + 4 * k ≡ f * row.digits + s * row.set + row.last = omega (arith, sh.last_fours, sh.last_least) in
            let here : s + 1 ≡ row.sets = omega (arith, end, later) in
            rw (ne_eqb s 0 (λ q. omega arith), eq-eqb s (row.sets - 1) end)
            (rw last at (is ∙ sums-columns row one other p k 4 sums (omega arith) (number-justification row sh f s hs later here) e))

        pub fixed-sums : 0 < s → s ≢ row.sets - 1 → SumsTo row one other (f * row.digits + s * row.set + 4) sums
            → next ≡ added sums 2 (all_from one other (f * row.digits + s * row.set + 4) (row.middle - 4))
            → SumsTo row one other (f * row.digits + s * row.set + head_end row s) next
        unfolding head_end
        fixed-sums later between e is =
            let p = f * row.digits + s * row.set + 4 in
            let n = row.middle - 4 in
            let last : p + n ≡ f * row.digits + s * row.set + row.middle = omega (arith, sh.middle_least) in
            let not : s + 1 ≢ row.sets = λ q. between (omega (arith, q)) in
            rw (ne_eqb s 0 (λ q. omega arith), ne_eqb s (row.sets - 1) between)
            (rw last at (is ∙ sums-kind row one other p n 2 sums (omega arith) (number-fixed row sh f s hs later not) e))

        -- the run at once, or in two turns: its first 192 columns and the rest
        module _ (head : ℕ) (is-head : head ≡ head_end row s) where
          run-number : (c : ℕ) → c < (row.set - head) / 4 → (j : ℕ) → j < 4 → number_at row (f * row.digits + s * row.set + head + 4 * c + j) ≡ 5 + 3 * j
          run-number = rw is-head (number-run row sh f s hs)

          run-from : SumsTo row one other (f * row.digits + s * row.set + head_end row s) sums → SumsTo row one other (f * row.digits + s * row.set + head) sums
          run-from e = rw is-head e

          run_end : f * row.digits + s * row.set + head + 4 * ((row.set - head) / 4) ≡ f * row.digits + s * row.set + row.set
          run_end = omega (arith, is-head, head-end-fours row sh s, head-end-in row sh s, sh.set_fours)

          pub run-whole : SumsTo row one other (f * row.digits + s * row.set + head_end row s) sums
              → next ≡ added_four sums 5 (λ (j : ℕ). columns_of one other (f * row.digits + s * row.set + head) j ((row.set - head) / 4))
              → SumsTo row one other (f * row.digits + s * row.set + row.set) next
          run-whole e is =
              let p = f * row.digits + s * row.set + head in
              rw run_end at (is ∙ sums-columns row one other p ((row.set - head) / 4) 5 sums (omega arith) run-number (run-from e))

          pub run-first : 192 ≤ (row.set - head) / 4 → SumsTo row one other (f * row.digits + s * row.set + head_end row s) sums
              → next ≡ added_four sums 5 (λ (j : ℕ). columns_of one other (f * row.digits + s * row.set + head) j 192)
              → SumsTo row one other (f * row.digits + s * row.set + head + 4 * 192) next
          run-first many e is =
              let p = f * row.digits + s * row.set + head in
              is ∙ sums-columns row one other p 192 5 sums (omega arith) (λ c h. run-number c (omega arith)) (run-from e)

          pub run-rest : 192 ≤ (row.set - head) / 4 → SumsTo row one other (f * row.digits + s * row.set + head + 4 * 192) sums
              → next ≡ added_four sums 5 (λ (j : ℕ). columns_of one other (f * row.digits + s * row.set + head + 4 * 192) j ((row.set - head) / 4 - 192))
              → SumsTo row one other (f * row.digits + s * row.set + row.set) next
          run-rest many e is =
              let p = f * row.digits + s * row.set + head in
              let k = (row.set - head) / 4 - 192 in
              let end : p + 4 * 192 + 4 * k ≡ f * row.digits + s * row.set + row.set = omega (arith, run_end) in
              rw end at
              (is ∙ sums-columns row one other (p + 4 * 192) k 5 sums (omega arith)
              (λ c h j hj.
              let at : p + 4 * 192 + 4 * c + j ≡ p + 4 * (192 + c) + j = omega arith in
              rw at (run-number (192 + c) (omega arith) j hj))
              e)

    pub run-columns : (s : ℕ) → (row.set - head_end row s) / 4 ≤ 384
    run-columns s =
        let two : 2 * row.set ≤ row.sets * row.set = mul-le-mul_right {m = 2} {n = row.sets} row.set sh.later_set in
        omega (arith, two, sh.whole, sh.short)

    pub frame-bytes : f * row.bytes + row.bytes ≤ length one
    frame-bytes =
        let eight : (f + 1) * row.digits ≡ 8 * ((f + 1) * row.bytes) = ap (λ (n : ℕ). (f + 1) * n) sh.packed ∙ mul_left_comm (f + 1) 8 row.bytes in
        omega (arith, inside, eight, add-mul f 1 row.bytes)

    -- a frame that is equal in both
    pub equal-frame : (sums : List ℕ) → EqualBytes one other (f * row.bytes) (f * row.bytes + row.bytes) → SumsTo row one other (f * row.digits) sums
        → SumsTo row one other ((f + 1) * row.digits) sums
    equal-frame sums same e =
        let eight : f * row.digits ≡ 8 * (f * row.bytes) = ap (λ (n : ℕ). f * n) sh.packed ∙ mul_left_comm f 8 row.bytes in
        let end : (f + 1) * row.digits ≡ f * row.digits + row.digits = omega (arith, add-mul f 1 row.digits) in
        rw end
        (sums-pass row one other row.digits (f * row.digits) sums
        (λ q a b. equal-digits one other (f * row.bytes) (f * row.bytes + row.bytes) same q (omega (arith, eight)) (omega (arith, eight, sh.packed))) e)

  -- the frames of the line, and no other
  frames-of : (n : ℕ) → n * row.digits ≡ 8 * (n * row.bytes)
  frames-of n = ap (λ (k : ℕ). n * k) sh.packed ∙ mul_left_comm n 8 row.bytes

  pub frame-in : (f : ℕ) → f < frames_of row (length one) → InFrame row one f
  frame-in f h =
      let n = frames_of row (length one) in
      let some : (f + 1) * row.bytes ≤ n * row.bytes = mul-le-mul_right {m = f + 1} {n = n} row.bytes (omega arith) in
      omega (arith, frames-of (f + 1), some, l.whole)

  pub frames-end : (f : ℕ) (sums : List ℕ) → f ≡ frames_of row (length one) → SumsTo row one other (f * row.digits) sums
      → SumsTo row one other (8 * length one) sums
  frames-end f sums e s =
      let n = frames_of row (length one) in
      let end : f * row.digits ≡ 8 * length one = ap (λ (k : ℕ). k * row.digits) e ∙ (let z : n * row.digits ≡ 8 * length one = omega (arith, frames-of n, l.whole) in z) in
      rw end at s

  pub frames-start : (sums : List ℕ) → sums ≡ replicate 15 0 → SumsTo row one other (0 * row.digits) sums
  frames-start sums e =
      let z : 0 * row.digits ≡ 0 = omega arith in
      rw z (e ∙ sym (sums_none row (differ_at one other)))

  -- the sums of the whole line, and the list, are all that is counted and listed
  pub whole-counted : (all : ℕ) (sums places : List ℕ) → SumsTo row one other (8 * length one) sums → all ≡ sum_to 15 (λ (k : ℕ). get_or sums k 0)
      → places ≡ listed_on row one other → Counted row one other (8 * length one) all sums places
  whole-counted all sums places s a p =
      record {
        the_all = a ∙ ap (λ (l : List ℕ). sum_to 15 (λ (k : ℕ). get_or l k 0)) s ∙ adds-up row (differ_at one other) (8 * length one);
        the_sums = s;
        the_places = p;
      }
