-- The national places, by the table: in the first set, from the row's first national place on, as many as the row has. And that a send whose notes have every
-- national bit 1 has 1 there.
use mathlib.Core.Path.{◌≡◌, refl, sym, ◌∙◌, ap}
use mathlib.Core.Bool.{Bool, cond, true, false, false≢true}
use Prim.Native.Nat.{ℕ, zero, suc, ◌+◌, ◌-◌, ◌/◌, ◌%◌, ◌^◌, ◌≤◌, ◌<◌}
use native.Mathlib.Omega.{arith}
use native.Mathlib.Decide.{ℕ_discrete}
use lib.Dec.{eqb, ltb, lit≤}
use borrow.Author.Tests.{eq-eqb, ne_eqb, ltb-true, ltb-false}
use Rattle.digits.proofs.Lists.{of_four}
use Rattle.table.specs.declared.Row.{Row}
use Rattle.levels.specs.declared.order.Action.{Action}
use Rattle.levels.specs.declared.places.ServiceDigit.TheVariants.{Fixed}
use Rattle.levels.specs.declared.places.Sign.TheVariants.{Negative, Positive}
use Rattle.levels.specs.declared.places.Kind.{Kind}
use Rattle.levels.specs.declared.places.Kind.TheVariants.{Word, Service, Control, Justification, Tributary}
use Rattle.levels.specs.Table.{Shared}
use Rattle.levels.specs.Places.{noted_digit, noted_of, first_set, middle_set, last_set, kind_of}
use Rattle.levels.proofs.Ways.{kind-noted}
use Rattle.levels.specs.Line.{service_by, digit_by}
use Rattle.repair_promises.specs.Repairing.{is_national}

-- a place of this kind has a national digit
abbrev pub national_kind : Kind → Bool
national_kind Word = false
national_kind (Service s) = is_national s
national_kind Control = false
national_kind (Justification sign) = false
national_kind Tributary = false

-- of the digits that a note has all but the first are national
noted-national : (i : ℕ) → is_national (noted_digit (suc i)) ≡ true
noted-national zero = refl
noted-national (suc zero) = refl
noted-national (suc (suc i)) = refl

noted-later : (k : ℕ) → is_national (noted_digit k) ≡ true → 0 < k
noted-later zero e = absurd (false≢true e)
noted-later (suc k) e = omega arith

module _ (row : Row) (sh : Shared row) where
  -- behind the first set there are none
  middle-none : (r : ℕ) → national_kind (middle_set row r) ≡ false
  unfolding middle_set
  middle-none r = go (ltb r 4) (ltb r row.middle)
    where
      go : (a b : Bool) → national_kind (cond a Control (cond b (Service Fixed) Tributary)) ≡ false
      go true b = refl
      go false true = refl
      go false false = refl

  last_none : (r : ℕ) → national_kind (last_set row r) ≡ false
  unfolding last_set
  last_none r = go (ltb r 4) (ltb r (row.last - 4)) (ltb r row.last)
    where
      go : (a b c : Bool) → national_kind (cond a Control (cond b (Justification Negative) (cond c (Justification Positive) Tributary))) ≡ false
      go true b c = refl
      go false true c = refl
      go false false true = refl
      go false false false = refl

  later-none : (s r : ℕ) → (s ≡ 0 → ⊥) → national_kind (kind_of row s r) ≡ false
  unfolding kind_of
  later-none s r later = rw (ne_eqb s 0 later) (go (eqb s (row.sets - 1)))
    where
      go : (t : Bool) → national_kind (cond t (last_set row r) (middle_set row r)) ≡ false
      go true = last_none r
      go false = middle-none r

  -- in the first it is a service digit that a note has, and not the remote alarm's
  record Noted (r : ℕ) : Type 0 where
    behind : row.len ≤ r
    noted : r - row.len < noted_of row
    later : 0 < r - row.len

  first-noted : (r : ℕ) → national_kind (first_set row r) ≡ true → Noted r
  unfolding first_set
  first-noted r = go (ltb r row.len) (ltb r row.first) (ltb (r - row.len) (noted_of row)) refl refl
    where
      k : ℕ
      k = r - row.len

      go : (a b c : Bool) → ltb r row.len ≡ a → ltb k (noted_of row) ≡ c → national_kind (cond a Word (cond b (Service (cond c (noted_digit k) Fixed)) Tributary)) ≡ true → Noted r
      go true b c ea ec e = absurd (false≢true e)
      go false true true ea ec e = record { behind = ltb-false r row.len ea; noted = ltb-true k (noted_of row) ec; later = noted-later k e }
      go false true false ea ec e = absurd (false≢true e)
      go false false c ea ec e = absurd (false≢true e)

  -- a place has a national digit exactly where the table says
  pub national-from : (s r : ℕ) → national_kind (kind_of row s r) ≡ true → (s ≡ 0) × (row.national ≤ r) × (r < row.national + row.nationals)
  unfolding kind_of
  national-from s r e =
      elim (ℕ_discrete s 0) [
        | yes z ↦
            let n = first-noted r (rw (eq-eqb s 0 z) at e) in
            let has : row.alarms ≡ 1 = omega (arith, sh.few_alarm, sh.few_national, n.noted, n.later) in
            (z, omega (arith, sh.alarm_next, sh.national_next, n.later, has), omega (arith, sh.alarm_next, sh.national_next, n.noted, n.behind))
        | no later ↦ absurd (false≢true (sym (later-none s r later) ∙ e))
      ]

  -- and is there the one that a note has in that order
  noted-kind : (s r k : ℕ) → s ≡ 0 → r ≡ row.len + suc k → suc k < noted_of row → kind_of row s r ≡ Service (noted_digit (suc k))
  noted-kind s r k first e h = rw (first, e) (kind-noted row sh (suc k) h)

  pub national-at : (r : ℕ) → row.national ≤ r → r < row.national + row.nationals → national_kind (kind_of row 0 r) ≡ true
  national-at r from to =
      let k = r - row.national in
      let has : row.alarms ≡ 1 = omega (arith, sh.few_alarm, sh.few_national) in
      let e : r ≡ row.len + suc k = omega (arith, sh.alarm_next, sh.national_next) in
      ap national_kind (noted-kind 0 r k refl e (omega (arith, sh.alarm_next, sh.national_next))) ∙ noted-national k

-- where the national bits that a level has are all 1, so is each of them
module _ (note k : ℕ) where
  abbrev One : ℕ → Type 0
  One n = k < n → note / 2 ^ 5 % 2 ^ n ≡ 2 ^ n - 1 → service_by note (noted_digit (suc k)) ≡ 1

  -- whichever of the three it is
  of_three : (n : ℕ) → n ≤ 3 → k < n → (0 < n → note / 2 ^ 5 % 2 ≡ 1) → (1 < n → note / 2 ^ 6 % 2 ≡ 1) → (2 < n → note / 2 ^ 7 % 2 ≡ 1)
      → service_by note (noted_digit (suc k)) ≡ 1
  of_three n few h one two three =
      of_four (λ (i : ℕ). i < n → service_by note (noted_digit (suc i)) ≡ 1) one two three (λ over. omega arith) k (omega arith) h

  pub bit-set : (n : ℕ) → n ≤ 3 → One n
  bit-set n few =
      of_four One (λ h e. omega arith) (λ h e. of_three 1 (lit≤ tt) h (λ _. e) (λ g. omega arith) (λ g. omega arith))
      (λ h e. of_three 2 (lit≤ tt) h (λ _. omega (arith, e)) (λ _. omega (arith, e)) (λ g. omega arith))
      (λ h e. of_three 3 (lit≤ tt) h (λ _. omega (arith, e)) (λ _. omega (arith, e)) (λ _. omega (arith, e)))
      n
      (omega arith)

-- so a send of such notes has 1 at every national place
pub national-sent : (row : Row) → Shared row → (note : ℕ) (act : Action) (j s r next : ℕ) → national_kind (kind_of row s r) ≡ true
    → note / 2 ^ 5 % 2 ^ row.nationals ≡ 2 ^ row.nationals - 1 → digit_by row note act j r next (kind_of row s r) ≡ 1
national-sent row sh note act j s r next nat ones =
    let there = national-from row sh s r nat in
    let k = r - row.national in
    let small : k < row.nationals = omega (arith, there.1, there.2) in
    let here : r ≡ row.len + suc k = omega (arith, sh.alarm_next, sh.national_next, sh.few_alarm, sh.few_national, there.1, there.2) in
    let kind = noted-kind row sh s r k there.0 here (omega (arith, sh.few_alarm, sh.few_national, small)) in
    rw kind (bit-set note k row.nationals (omega (arith, sh.few_alarm, sh.few_national)) small ones)
