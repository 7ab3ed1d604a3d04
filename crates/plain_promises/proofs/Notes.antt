-- Reading the notes: both engines count the same wrong digits and the same votes, and so make the same notes. The plain engine counts over
-- all places of a frame, by what stands there; the quick one looks at the places of the word and of the control groups.
use mathlib.Core.Path.{◌≡◌, refl, sym, ◌∙◌, ap}
use mathlib.Core.Logic.{◌≢◌}
use mathlib.Core.Bool.{Bool, cond}
use mathlib.Core.List.{List, [], ◌∷◌}
use Prim.Native.Nat.{ℕ, zero, suc, ◌+◌, ◌*◌, ◌-◌, ◌%◌, ◌≤◌, ◌<◌}
use native.Mathlib.Omega.{arith}
use native.Mathlib.Nat.{add-zero, zero-add, suc-mul, one-mul, mul-le-mul_right}
use native.Mathlib.Decide.{dec_lt, ℕ_discrete}
use lib.Dec.{eqb, ltb}
use lib.Arith.{digits_mod}
use lib.ListN.{length, get_or}
use borrow.Author.Tests.{lt-ltb, le-ltb, eq-eqb, ne_eqb}
use Rattle.digits.specs.Digits.{digits_of, tab}
use Rattle.digits.specs.Sums.{sum_to}
use Rattle.digits.proofs.Laws.{digits-binary, tab-of}
use Rattle.table.specs.declared.Row.{Row}
use Rattle.levels.specs.Table.{Shared}
use Rattle.levels.specs.Places.{noted_of}
use Rattle.levels.specs.Vote.{votes_for, vote_by, group_of}
use Rattle.levels.specs.Word.{word_digit, wrong_digits}
use Rattle.levels.proofs.Choice.{cond-by}
use Rattle.levels.proofs.Groups.{group-binary}
use Rattle.levels.proofs.Majority.{votes-append, votes-all}
use Rattle.levels.proofs.Sentences.{set-start}
use Rattle.reading.specs.Notes as quick
use Rattle.engine.specs.declared.frame.Place.{Place}
use Rattle.engine.specs.Engine.{sum_over, place_in, received, wrong_by, wrong_to, votes_by, votes_to, majority, dissent_in, alarm_in, national_in, note_in, notes_to, alignment_to, dissent_to, dissents_to}
use Rattle.plain.specs.Walk.{is_control}
use Rattle.plain.proofs.Votes.{control-votes}
use Rattle.plain.proofs.Noting.{notes-length, note-at}
use Rattle.plain_promises.proofs.Bytes.{digit-same}
use Rattle.plain_promises.proofs.Places.{past}

-- ---- sums

sum_same : (n : ℕ) (g h : ℕ → ℕ) → ((i : ℕ) → i < n → g i ≡ h i) → sum_over n g ≡ sum_to n h
unfolding sum_over sum_to
sum_same zero g h e = refl
sum_same (suc n) g h e = rw (sum_same n g h (λ i hi. e i (omega arith)), e n (omega arith))

-- a sum cut in two
sum-cut : (a b : ℕ) (g : ℕ → ℕ) → sum_over (a + b) g ≡ sum_over a g + sum_over b (λ (i : ℕ). g (a + i))
unfolding sum_over
sum-cut a zero g = rw (add-zero a) (omega arith)
sum-cut a (suc b) g = let e : a + suc b ≡ suc (a + b) = omega arith in rw e (omega (arith, sum-cut a b g))

-- nothing, over and over
sum-none : (n : ℕ) (g : ℕ → ℕ) → ((i : ℕ) → i < n → g i ≡ 0) → sum_over n g ≡ 0
unfolding sum_over
sum-none zero g e = refl
sum-none (suc n) g e = omega (arith, sum-none n g (λ i hi. e i (omega arith)), e n (omega arith))

-- one term only
sum_one : (n j x : ℕ) (g : ℕ → ℕ) → ((i : ℕ) → i < n → g i ≡ cond (eqb i j) x 0) → sum_over n g ≡ cond (ltb j n) x 0
unfolding sum_over
sum_one zero j x g e = rw (le-ltb j 0 (omega arith))
sum_one (suc n) j x g e =
    let rest = sum_one n j x g (λ i hi. e i (omega arith)) in
    elim (ℕ_discrete n j) [
      | yes s ↦
          rw (lt-ltb j (suc n) (omega arith), rest, le-ltb j n (omega arith), e n (omega arith), eq-eqb n j s) (zero-add x)
      | no d ↦ rw (rest, e n (omega arith), ne_eqb n j d) (add-zero _ ∙ ap (λ (t : Bool). cond t x 0) (same d))
    ]
  where
    same : n ≢ j → ltb j n ≡ ltb j (suc n)
    same d =
        elim (dec_lt j n) [
          | yes l ↦ lt-ltb j n l ∙ sym (lt-ltb j (suc n) (omega arith))
          | no l ↦ le-ltb j n (omega arith) ∙ sym (le-ltb j (suc n) (above l))
        ]
      where
        above : (j < n → ⊥) → suc n ≤ j
        above l = omega arith

-- ---- a frame

module _ (row : Row) (sh : Shared row) (line : List ℕ) (f : ℕ) where
  abbrev ds : List ℕ
  ds = digits_of line

  heads : row.len ≤ row.first
  heads = omega (arith, sh.alarm_next, sh.national_next, sh.first_next)

  long : row.len + (row.digits - row.len) ≡ row.digits
  long = omega (arith, sh.whole, sh.later_set, sh.room, heads, set-start row sh row.sets, two)
    where
      two : 2 * row.set ≤ row.sets * row.set
      two = mul-two
        where
          mul-two : 2 * row.set ≤ row.sets * row.set
          mul-two = mul-le-mul_right row.set sh.later_set

  -- past the alignment signal no digit is a wrong one of it
  past_word : (q d : ℕ) → row.len ≤ q → wrong_by row q d (place_in row q) ≡ 0
  unfolding place_in
  past_word q d h =
      let none : Place → Type 0 = λ (pl : Place). wrong_by row q d pl ≡ 0 in
      rw (le-ltb q row.len h)
      (cond-by none (ltb q (row.len + row.alarms + row.nationals)) refl
      (cond-by none (ltb q row.first) refl
      (cond-by none (ltb q row.set) refl
      (cond-by none (ltb (q % row.set) 4) refl
      (cond-by none (ltb (q + row.set) row.digits) (cond-by none (ltb (q % row.set) row.middle) refl refl)
      (cond-by none (ltb (q % row.set + 4) row.last) refl (cond-by none (ltb (q % row.set) row.last) refl refl)))))))

  in-word : (q d : ℕ) → q < row.len → wrong_by row q d (place_in row q) ≡ cond (eqb d (word_digit row q)) 0 1
  unfolding place_in
  in-word q d h = rw (lt-ltb q row.len h)

  pub wrong-same : wrong_to row line f row.digits ≡ wrong_digits row ds (f * row.digits)
  wrong-same =
      ap (λ (n : ℕ). wrong_to row line f n) (sym long)
      ∙ sum-cut row.len (row.digits - row.len) term
      ∙ rw (sum-none (row.digits - row.len) (λ (i : ℕ). term (row.len + i)) (λ i _. past_word (row.len + i) (received row line f (row.len + i)) (omega arith)))
      (add-zero (sum_over row.len term) ∙ sum_same row.len term (λ (i : ℕ). cond (eqb (get_or ds (f * row.digits + i) 0) (word_digit row i)) 0 1) word)
    where
      term : ℕ → ℕ
      term q = wrong_by row q (received row line f q) (place_in row q)

      word : (i : ℕ) → i < row.len → term i ≡ cond (eqb (get_or ds (f * row.digits + i) 0) (word_digit row i)) 0 1
      word i h = in-word i (received row line f i) h ∙ rw (digit-same line (f * row.digits + i))

  -- the votes of tributary j: one in each set after the first
  module _ (j : ℕ) (jh : j < 4) (v : ℕ) where
    abbrev vote : ℕ → ℕ
    vote q = votes_by j v q (received row line f q) (place_in row q)

    abbrev group : ℕ → List ℕ
    group k = group_of ds (f * row.digits + (row.set + j)) row.set k

    none_first : (q : ℕ) → q < row.set → vote q ≡ 0
    unfolding place_in
    none_first q h =
        let none : Place → Type 0 = λ (pl : Place). votes_by j v q (received row line f q) pl ≡ 0 in
        rw (lt-ltb q row.set h)
        (cond-by none (ltb q row.len) refl (cond-by none (ltb q (row.len + row.alarms + row.nationals)) refl (cond-by none (ltb q row.first) refl refl)))

    -- place r of a later set votes where it is the tributary's control digit
    in-later : (s r : ℕ) → r < row.set → vote (suc s * row.set + r)
        ≡ cond (eqb r j) (cond (eqb (get_or ds (f * row.digits + (suc s * row.set + j)) 0) v) 1 0) 0
    in-later s r h =
        rw (control-votes j v q (received row line f q) (place_in row q), past row sh q later, digits_mod (suc s) h)
        (elim (dec_lt r 4) [
          | yes a ↦
              let whose : q % 4 ≡ r = omega (arith, set-start row sh (suc s)) in
              rw (lt-ltb r 4 a, whose) own
          | no a ↦
              rw (le-ltb r 4 (omega arith), ne_eqb r j (λ e. omega arith))
              (cond-by none (ltb (q + row.set) row.digits) (cond-by none (ltb r row.middle) refl refl)
              (cond-by none (ltb (r + 4) row.last) refl (cond-by none (ltb r row.last) refl refl)))
        ])
      where
        q : ℕ
        q = suc s * row.set + r

        later : row.set ≤ q
        later = omega (arith, suc-mul s row.set)

        none : Place → Type 0
        none pl = cond {A = ℕ} (is_control pl) (cond (eqb (q % 4) j) (cond (eqb (received row line f q) v) 1 0) 0) 0 ≡ 0

        own : cond {A = ℕ} (eqb r j) (cond (eqb (received row line f q) v) 1 0) 0
            ≡ cond (eqb r j) (cond (eqb (get_or ds (f * row.digits + (suc s * row.set + j)) 0) v) 1 0) 0
        own =
            elim (ℕ_discrete r j) [
              | yes e ↦
                  let at : received row line f q ≡ get_or ds (f * row.digits + (suc s * row.set + j)) 0 =
                  digit-same line (f * row.digits + q) ∙ ap (λ (k : ℕ). get_or ds (f * row.digits + (suc s * row.set + k)) 0) e in
                  rw at
              | no n ↦ rw (ne_eqb r j n)
            ]

    votes-to : (k : ℕ) → sum_over (suc k * row.set) vote ≡ votes_for v (group k)
    unfolding group_of votes_for
    votes-to zero = rw (one-mul row.set) (sum-none row.set vote none_first)
    votes-to (suc k) =
        let cut : suc (suc k) * row.set ≡ suc k * row.set + row.set = suc-mul (suc k) row.set in
        let place : f * row.digits + (row.set + j) + k * row.set ≡ f * row.digits + (suc k * row.set + j) = omega (arith, suc-mul k row.set) in
        let d = get_or ds (f * row.digits + (suc k * row.set + j)) 0 in
        let last : sum_over row.set (λ (r : ℕ). vote (suc k * row.set + r)) ≡ cond (eqb d v) 1 0 =
        sum_one row.set j (cond (eqb d v) 1 0) (λ (r : ℕ). vote (suc k * row.set + r)) (λ r h. in-later k r h)
        ∙ rw (lt-ltb j row.set (omega (arith, sh.room))) in
        rw (cut, place)
        (sum-cut (suc k * row.set) row.set vote
        ∙ rw (votes-to k, last) (sym (votes-append v (group k) (d ∷ []) ∙ ap (λ (n : ℕ). votes_for v (group k) + n) (add-zero (cond (eqb d v) 1 0)))))

    pub votes-same : votes_to row line f j v row.digits ≡ votes_for v (group row.control)
    votes-same =
        let whole : suc row.control * row.set ≡ row.digits = ap (λ (k : ℕ). k * row.set) sets ∙ sym sh.whole in
        rw whole at (votes-to row.control)
      where
        sets : suc row.control ≡ row.sets
        sets = omega (arith, sh.group)

  -- so majority and dissent are the same
  module _ (j : ℕ) (jh : j < 4) where
    abbrev g : List ℕ
    g = group_of ds (f * row.digits + (row.set + j)) row.set row.control

    all : votes_for 0 g + votes_for 1 g ≡ length g
    all = votes-all g (group-binary ds (digits-binary line) (f * row.digits + (row.set + j)) row.set row.control)

    more : ltb (votes_for 0 g) (votes_for 1 g) ≡ ltb (length g) (2 * votes_for 1 g)
    more =
        elim (dec_lt (votes_for 0 g) (votes_for 1 g)) [
          | yes l ↦ lt-ltb (votes_for 0 g) (votes_for 1 g) l ∙ sym (lt-ltb (length g) (2 * votes_for 1 g) (omega (arith, all)))
          | no l ↦ le-ltb (votes_for 0 g) (votes_for 1 g) (omega arith) ∙ sym (le-ltb (length g) (2 * votes_for 1 g) (omega (arith, all)))
        ]

    pub majority-same : majority row line f j ≡ quick.bit_of (quick.vote_at row ds f j).stuffed
    unfolding quick.vote_at vote_by
    majority-same = rw (votes-same j jh 0, votes-same j jh 1, more)

    pub dissent-same : dissent_in row line f j ≡ (quick.vote_at row ds f j).dissent
    unfolding quick.vote_at vote_by
    dissent-same = rw (votes-same j jh 0, votes-same j jh 1) (omega (arith, all))

  -- the service digits
  national-same : (k : ℕ) → national_in row line f k ≡ quick.service_at row ds f (suc k)
  unfolding quick.service_at
  national-same k =
      elim (dec_lt k row.nationals) [
        | yes l ↦
            let one : row.alarms ≡ 1 = omega (arith, l, sh.few_alarm, sh.few_national) in
            let at : row.national + k ≡ row.alarm + suc k = omega (arith, one, sh.national_next) in
            rw (lt-ltb k row.nationals l, lt-ltb (suc k) (noted_of row) (omega (arith, l, one)), at) (digit-same line (f * row.digits + (row.alarm + suc k)))
        | no l ↦ rw (le-ltb k row.nationals (omega arith), le-ltb (suc k) (noted_of row) (omega (arith, sh.few_alarm)))
      ]

  alarm-same : alarm_in row line f ≡ quick.service_at row ds f 0
  unfolding quick.service_at
  alarm-same =
      elim (dec_lt 0 row.alarms) [
        | yes l ↦ rw (lt-ltb 0 row.alarms l, lt-ltb 0 (noted_of row) (omega (arith, l)), add-zero row.alarm) (digit-same line (f * row.digits + row.alarm))
        | no l ↦ rw (le-ltb 0 row.alarms (omega arith), le-ltb 0 (noted_of row) (omega (arith, sh.few_national)))
      ]

  pub note-same : note_in row line f ≡ quick.note_of row ds f
  unfolding note_in quick.note_of
  note-same =
      rw (majority-same 0 (omega arith), majority-same 1 (omega arith), majority-same 2 (omega arith), majority-same 3 (omega arith))
      (rw (alarm-same, national-same 0, national-same 1, national-same 2))

-- ---- all frames

module _ (row : Row) (sh : Shared row) (line : List ℕ) (F : ℕ) where
  pub notes-same : notes_to row line F ≡ quick.notes_of row (digits_of line) F
  notes-same =
      tab-of (notes_to row line F) F (quick.note_of row (digits_of line)) (notes-length row line F) (λ f h. note-at row line F f h ∙ note-same row sh line f)

  pub alignment-same : alignment_to row line F ≡ quick.alignment_to row (digits_of line) F
  alignment-same =
      sum_same F (λ (f : ℕ). wrong_to row line f row.digits) (λ (f : ℕ). wrong_digits row (digits_of line) (f * row.digits)) (λ f _. wrong-same row sh line f)

  pub dissents-same : dissents_to row line F ≡ quick.dissents_of row (digits_of line) F
  dissents-same = rw (one 0 (omega arith), one 1 (omega arith), one 2 (omega arith), one 3 (omega arith))
    where
      one : (j : ℕ) → j < 4 → dissent_to row line j F ≡ quick.dissent_to row (digits_of line) j F
      one j h =
          sum_same F (λ (f : ℕ). dissent_in row line f j) (λ (f : ℕ). (quick.vote_at row (digits_of line) f j).dissent) (λ f _. dissent-same row sh line f j h)
