-- Multiplexing makes the line of proofs/IdleLines.antt: of tributaries of zeros, with notes of the national bits alone, which it asks for, and the vote 0
-- before them, it sends the words, 1 at the national places and at the service places that no note has, and 0 at every other place. So a line of correct
-- frames of any number of frames is one that multiplexing makes.
use Rattle.std.specs.Prelude.{Some}
use mathlib.Core.Path.{◌≡◌, refl, sym, ◌∙◌}
use mathlib.Core.Bool.{cond, true, false, not}
use mathlib.Core.List.{List, ◌∷◌}
use Prim.Native.Nat.{ℕ, zero, suc, ◌+◌, ◌*◌, ◌-◌, ◌/◌, ◌%◌, ◌^◌, ◌≤◌, ◌<◌}
use native.Mathlib.Omega.{arith}
use native.Mathlib.Decide.{dec_lt}
use native.Mathlib.Nat.{div-eq_of_lt, mod-eq_of_lt, mod-lt, div-add-mod', lt_of_mul-lt-mul_right}
use borrow.Author.Tests.{eqb-true, ltb-true, ltb-false, lt-ltb}
use lib.Dec.{eqb, ltb}
use lib.ListN.{length, get_or}
use Rattle.digits.specs.Digits.{digits_of, Binary, written, tab}
use Rattle.digits.proofs.Laws.{digits-of-bytes, tab-length, tab-at, tab-of, tab-binary}
use Rattle.digits.proofs.Lists.{of_four}
use Rattle.digits.proofs.Tests.{cond-told}
use Rattle.digits.proofs.Written.{written-length, written-digit}
use Rattle.table.specs.declared.Row.{Row}
use Rattle.levels.specs.declared.places.Kind.{Kind}
use Rattle.levels.specs.declared.order.Action.{Action}
use Rattle.levels.specs.declared.places.Sign.TheVariants.{Negative, Positive}
use Rattle.levels.specs.declared.places.ServiceDigit.{ServiceDigit}
use Rattle.levels.specs.declared.places.Kind.TheVariants.{Word, Service, Control, Justification, Tributary}
use Rattle.table.specs.Table.{level_of}
use Rattle.levels.specs.Table.{Shared}
use Rattle.levels.specs.Places.{noted_digit, noted_of, service_digit, first_set, middle_set, last_set, kind_of, pos_of, kind_at}
use Rattle.levels.specs.Order.{stuffed, has_negative, action_of, is_stuffed, actions, before}
use Rattle.levels.specs.Word.{word_digit}
use Rattle.levels.specs.Faults.{national_bits}
use Rattle.levels.proofs.Choice.{cond-by}
use Rattle.levels.proofs.Rows.{shared-row}
use Rattle.levels.proofs.Positions.{stands}
use Rattle.levels.proofs.Ways.{kind-word}
use Rattle.levels.specs.Line.{service_by, digit_by, line_digit, line_of}
use Rattle.receiver_promises.specs.Line.{in_frame}
use Rattle.receiver_recovery.specs.Line.{word_of, CorrectLine, zero_digit, is_one, idle_digit, idle_line}
use Rattle.receiver_promises.proofs.Alarms.{some-digits}
use Rattle.receiver_recovery.proofs.ZeroLines.{one-zero, past_end}
use Rattle.receiver_recovery.proofs.IdleLines.{idle-bits, idle-correct}

-- ---- what stands at a place

-- the word's digit at a place of the word, a service place's by such a note, and 0 at any other
abbrev idle_by : ℕ → Kind → ℕ → ℕ
idle_by note Word d = d
idle_by note (Service s) d = service_by note s
idle_by note Control d = 0
idle_by note (Justification sign) d = 0
idle_by note Tributary d = 0

-- the service digits that a note has: of national bits the remote alarm digit is 0, and as many as there are national digits are 1
bits-sent : (n k : ℕ) → n ≤ 3 → k ≤ n → service_by (32 * (2 ^ n - 1)) (noted_digit k) ≡ cond (is_one (Service (noted_digit k))) 1 0
bits-sent n zero h hk = omega arith
bits-sent zero (suc k) h hk = absurd (over k hk)
  where
    over : (k : ℕ) → suc k ≤ 0 → ⊥
    over k h = omega arith
bits-sent (suc zero) (suc zero) h hk = refl
bits-sent (suc zero) (suc (suc k)) h hk = absurd (over k hk)
  where
    over : (k : ℕ) → suc (suc k) ≤ 1 → ⊥
    over k h = omega arith
bits-sent (suc (suc zero)) (suc zero) h hk = refl
bits-sent (suc (suc zero)) (suc (suc zero)) h hk = refl
bits-sent (suc (suc zero)) (suc (suc (suc k))) h hk = absurd (over k hk)
  where
    over : (k : ℕ) → suc (suc (suc k)) ≤ 2 → ⊥
    over k h = omega arith
bits-sent (suc (suc (suc zero))) (suc zero) h hk = refl
bits-sent (suc (suc (suc zero))) (suc (suc zero)) h hk = refl
bits-sent (suc (suc (suc zero))) (suc (suc (suc zero))) h hk = refl
bits-sent (suc (suc (suc zero))) (suc (suc (suc (suc k)))) h hk = absurd (over k hk)
  where
    over : (k : ℕ) → suc (suc (suc (suc k))) ≤ 3 → ⊥
    over k h = omega arith
bits-sent (suc (suc (suc (suc n)))) (suc k) h hk = absurd (over n h)
  where
    over : (n : ℕ) → suc (suc (suc (suc n))) ≤ 3 → ⊥
    over n h = omega arith

abbrev is_negative : Kind → ℕ
is_negative Word = 0
is_negative (Service s) = 0
is_negative Control = 0
is_negative (Justification Negative) = 1
is_negative (Justification Positive) = 0
is_negative Tributary = 0

-- a positive place carries the next digit, 0, in a frame that acts so
abbrev Carries : Action → Type 0
Carries act = ◌≡◌ {A = ℕ} (cond (not (is_stuffed act)) 0 1) 0

-- no vote is in such a note
no-bit : (note j : ℕ) → note / 2 ^ j % 2 ≡ 0 → stuffed note j ≡ false
no-bit note j e = rw e

no-vote : (m j : ℕ) → j < 4 → stuffed (32 * m) j ≡ false
no-vote m =
    of_four (λ (j : ℕ). stuffed (32 * m) j ≡ false) (no-bit (32 * m) 0 (omega arith)) (no-bit (32 * m) 1 (omega arith)) (no-bit (32 * m) 2 (omega arith))
    (no-bit (32 * m) 3 (omega arith))

-- after votes of 0 a place of either sign carries the next digit, 0, if the level has negative places where this is one
sent-of-zeros : (row : Row) (note j r : ℕ) (k : Kind) → stuffed note j ≡ false → (is_negative k ≡ 1 → has_negative row ≡ true)
    → digit_by row note (action_of row false false) j r 0 k ≡ idle_by note k (word_digit row r)
unfolding action_of
sent-of-zeros row note j r Word none has = refl
sent-of-zeros row note j r (Service s) none has = refl
sent-of-zeros row note j r Control none has = rw none
sent-of-zeros row note j r (Justification Negative) none has = rw (has refl)
sent-of-zeros row note j r (Justification Positive) none has = cond-by Carries (has_negative row) refl refl
sent-of-zeros row note j r Tributary none has = refl

module _ (row : Row) (sh : Shared row) where
  -- a level that has a negative place has room for a digit more
  negatives : (s r : ℕ) → is_negative (kind_of row s r) ≡ 1 → has_negative row ≡ true
  unfolding kind_of first_set middle_set last_set
  negatives s r =
      cond-told N (eqb s 0) (λ _. cond-told N (ltb r row.len) (λ _ e. none e) (λ _. cond-told N (ltb r row.first) (λ _ e. none e) (λ _ e. none e)))
      (λ _. cond-told N (eqb s (row.sets - 1))
      (λ _. cond-told N (ltb r 4) (λ _ e. none e)
      (λ a. cond-told N (ltb r (row.last - 4)) (λ b _. room (ltb-false r 4 a) (ltb-true r (row.last - 4) b))
      (λ _. cond-told N (ltb r row.last) (λ _ e. none e) (λ _ e. none e))))
      (λ _. cond-told N (ltb r 4) (λ _ e. none e) (λ _. cond-told N (ltb r row.middle) (λ _ e. none e) (λ _ e. none e))))
    where
      N : Kind → Type 0
      N k = is_negative k ≡ 1 → has_negative row ≡ true

      none : (◌≡◌ {A = ℕ} 0 1) → has_negative row ≡ true
      none e = absurd (one-zero (sym e))

      room : 4 ≤ r → r < row.last - 4 → has_negative row ≡ true
      room lo hi = lt-ltb row.n row.room (omega (arith, sh.most, sh.last_fours))

  -- the service digits of the first set, by such a note
  service-sent : (k : ℕ) → service_by (national_bits row) (service_digit row k) ≡ cond (is_one (Service (service_digit row k))) 1 0
  service-sent k =
      cond-told Z (ltb k (noted_of row))
      (λ e. bits-sent row.nationals k (omega (arith, sh.few_alarm, sh.few_national)) (omega (arith, ltb-true k (noted_of row) e, sh.few_alarm))) (λ _. refl)
    where
      Z : ServiceDigit → Type 0
      Z s = service_by (national_bits row) s ≡ cond (is_one (Service s)) 1 0

  -- past the word nothing is a word's
  no_word : (s r d : ℕ) → (s ≡ 0 → row.len ≤ r) → idle_by (national_bits row) (kind_of row s r) d ≡ cond (is_one (kind_of row s r)) 1 0
  unfolding kind_of first_set middle_set last_set
  no_word s r d past =
      cond-told Z (eqb s 0)
      (λ e. cond-told Z (ltb r row.len) (λ q. absurd (over (past (eqb-true s 0 e)) (ltb-true r row.len q)))
      (λ _. cond-told Z (ltb r row.first) (λ _. service-sent (r - row.len)) (λ _. refl)))
      (λ _. cond-told Z (eqb s (row.sets - 1))
      (λ _. cond-told Z (ltb r 4) (λ _. refl)
      (λ _. cond-told Z (ltb r (row.last - 4)) (λ _. refl) (λ _. cond-told Z (ltb r row.last) (λ _. refl) (λ _. refl))))
      (λ _. cond-told Z (ltb r 4) (λ _. refl) (λ _. cond-told Z (ltb r row.middle) (λ _. refl) (λ _. refl))))
    where
      Z : Kind → Type 0
      Z k = idle_by (national_bits row) k d ≡ cond (is_one k) 1 0

      over : row.len ≤ r → r < row.len → ⊥
      over a b = omega arith

  at_place : (p : ℕ) → idle_by (national_bits row) (kind_at row p) (word_digit row (pos_of row p).place) ≡ idle_digit row (p % row.digits)
  unfolding pos_of
  at_place p = rw (mod-eq_of_lt (mod-lt p (some-digits row sh))) (elim (dec_lt x row.len) [ yes h ↦ word h | no h ↦ other (omega arith) ])
    where
      x : ℕ
      x = p % row.digits

      kind : Kind
      kind = kind_of row (x / row.set) (x % row.set)

      word : x < row.len → idle_by (national_bits row) kind (word_digit row (x % row.set)) ≡ cond (is_one kind) 1 (zero_digit row x)
      word h =
          let in-set : x < row.set = omega (arith, sh.room, sh.alarm_next, sh.national_next, sh.first_next) in
          rw (div-eq_of_lt in-set, mod-eq_of_lt in-set, kind-word row sh x h) (sym (written-digit row.len row.word x (row.len - 1 - x) (omega arith)))

      other : row.len ≤ x → idle_by (national_bits row) kind (word_digit row (x % row.set)) ≡ cond (is_one kind) 1 (zero_digit row x)
      other h =
          rw (past_end (word_of row) x (omega (arith, written-length row.len row.word)))
          (no_word (x / row.set) (x % row.set) (word_digit row (x % row.set)) past)
        where
          past : x / row.set ≡ 0 → row.len ≤ x % row.set
          past e =
              let parts = rw e at (div-add-mod' x row.set) in
              omega (arith, parts)

  -- ---- the line

  module _ (F : ℕ) (notes : List ℕ) (tributary : ℕ → List ℕ) (noted : (f : ℕ) → f < F → get_or notes f 0 ≡ national_bits row) (no-digits : (j i : ℕ) → get_or (tributary j) i 0 ≡ 0) where
    votes : (j f : ℕ) → j < 4 → f < F → stuffed (get_or notes f 0) j ≡ false
    votes j f hj hf = rw (noted f hf) (no-vote (2 ^ row.nationals - 1) j hj)

    votes-before : (j f : ℕ) → j < 4 → f < F → stuffed (get_or (0 ∷ notes) f 0) j ≡ false
    votes-before j zero hj hf = no-vote 0 j hj
    votes-before j (suc f) hj hf = votes j f hj (omega arith)

    -- with votes of 0 a frame does for every tributary what two votes of 0 do
    acts : (j f : ℕ) → j < 4 → f < F → actions row 0 notes j f ≡ action_of row false false
    acts j f hj hf = rw (votes-before j f hj hf, votes j f hj hf) refl

    digit-sent : (p : ℕ) → p < F * row.digits → line_digit row 0 notes tributary p ≡ idle_digit row (p % row.digits)
    unfolding line_digit
    digit-sent p h =
        let f = (pos_of row p).frame in
        let hf : f < F = lt_of_mul-lt-mul_right row.digits (omega (arith, (stands row sh p).sum)) in
        let hj : p % 4 < 4 = omega arith in
        rw (acts (p % 4) f hj hf, noted f hf, no-digits (p % 4) (before row (actions row 0 notes (p % 4)) (p % 4) (p / 4)))
        (sent-of-zeros row (national_bits row) (p % 4) (pos_of row p).place (kind_at row p) (no-vote (2 ^ row.nationals - 1) (p % 4) hj) (negatives (pos_of row p).set (pos_of row p).place)
        ∙ at_place p)

    pub multiplexed-zeros : (bytes : ℕ) → 8 * bytes ≤ F * row.digits → digits_of (line_of row 0 notes tributary bytes) ≡ idle_line row 0 (8 * bytes)
    multiplexed-zeros bytes fits = digits-of-bytes bytes ds binary size ∙ is
      where
        ds : List ℕ
        ds = tab (8 * bytes) 0 (line_digit row 0 notes tributary)

        size : length ds ≡ 8 * bytes
        size = tab-length (8 * bytes) 0 (line_digit row 0 notes tributary)

        is : ds ≡ idle_line row 0 (8 * bytes)
        is =
            tab-of ds (8 * bytes) (λ i. idle_digit row (in_frame row 0 i)) size
            (λ i h. tab-at (8 * bytes) 0 (line_digit row 0 notes tributary) i h ∙ digit-sent (0 + i) (omega arith))

        binary : Binary ds
        binary = rw is (tab-binary (8 * bytes) 0 (λ i. idle_digit row (in_frame row 0 i)) (λ i. idle-bits row sh (in_frame row 0 i)))

-- at each level, so many bytes of F frames
pub multiplexed-correct : (level : ℕ) (row : Row) → level_of level ≡ Some row → (F : ℕ) (notes : List ℕ) (tributary : ℕ → List ℕ)
    → ((f : ℕ) → f < F → get_or notes f 0 ≡ 32 * (2 ^ row.nationals - 1)) → ((j i : ℕ) → get_or (tributary j) i 0 ≡ 0) → (bytes : ℕ) → 8 * bytes ≤ F * row.digits
    → CorrectLine row 0 (digits_of (line_of row 0 notes tributary bytes))
multiplexed-correct level row known F notes tributary noted no-digits bytes fits =
    rw (multiplexed-zeros row (shared-row level row known) F notes tributary noted no-digits bytes fits) (idle-correct level row known 0 (8 * bytes))
