-- The ways through `kind_of`: one law for each kind of place, over the row. Nothing above looks into the tests again.
use mathlib.Core.Path.{◌≡◌, ◌∙◌, ap}
use mathlib.Core.Logic.{◌≢◌}
use Prim.Native.Nat.{ℕ, suc, ◌+◌, ◌-◌, ◌≤◌, ◌<◌}
use native.Mathlib.Omega.{arith}
use native.Mathlib.Nat.{add-sub_cancel_left}
use lib.Dec.{eqb}
use borrow.Author.Tests.{lt-ltb, le-ltb, eq-eqb, ne_eqb}
use Rattle.table.specs.declared.Row.{Row}
use Rattle.levels.specs.declared.places.ServiceDigit.TheVariants.{ThirdNational, Fixed}
use Rattle.levels.specs.declared.places.Sign.TheVariants.{Negative, Positive}
use Rattle.levels.specs.declared.places.Kind.TheVariants.{Word, Service, Control, Justification, Tributary}
use Rattle.levels.specs.Table.{Shared}
use Rattle.levels.specs.Places.{noted_digit, noted_of, service_digit, first_set, middle_set, last_set, kind_of}
use Rattle.levels.proofs.Choice.{cond_same}

-- a digit past the second national one is the third
pub noted-third : (k : ℕ) → 3 ≤ k → noted_digit k ≡ ThirdNational
noted-third k h = let e : k ≡ suc (suc (suc (k - 3))) = omega arith in ap noted_digit e

module _ (row : Row) (sh : Shared row) where
  -- the word and the service digits come before the tributary digits
  word_first : row.len ≤ row.first
  word_first = omega (arith, sh.alarm_next, sh.national_next, sh.first_next)

  pub kind-word : (r : ℕ) → r < row.len → kind_of row 0 r ≡ Word
  unfolding kind_of first_set
  kind-word r h = rw (lt-ltb r row.len h)

  pub kind-service : (k : ℕ) → row.len + k < row.first → kind_of row 0 (row.len + k) ≡ Service (service_digit row k)
  unfolding kind_of first_set
  kind-service k h =
      let r = row.len + k in
      rw (le-ltb r row.len (omega arith), lt-ltb r row.first h, add-sub_cancel_left row.len k)

  pub kind-noted : (k : ℕ) → k < noted_of row → kind_of row 0 (row.len + k) ≡ Service (noted_digit k)
  kind-noted k h =
      kind-service k (omega (arith, sh.alarm_next, sh.national_next, sh.first_next)) ∙ rw (lt-ltb k (noted_of row) h)

  pub kind-unnoted : (k : ℕ) → noted_of row ≤ k → row.len + k < row.first → kind_of row 0 (row.len + k) ≡ Service Fixed
  kind-unnoted k h hi = kind-service k hi ∙ rw (le-ltb k (noted_of row) h)

  pub kind-first : (r : ℕ) → row.first ≤ r → kind_of row 0 r ≡ Tributary
  unfolding kind_of first_set
  kind-first r h = rw (le-ltb r row.len (omega (arith, word_first)), le-ltb r row.first h)

  -- the later sets
  module _ (s : ℕ) (later : 0 < s) where
    pub kind-control : (r : ℕ) → r < 4 → kind_of row s r ≡ Control
    unfolding kind_of middle_set last_set
    kind-control r h = rw (ne_eqb s 0 (λ e. omega arith), lt-ltb r 4 h) (cond_same (eqb s (row.sets - 1)) Control)

    -- the last one
    module _ (end : s + 1 ≡ row.sets) where
      pub kind-negative : (r : ℕ) → 4 ≤ r → r < row.last - 4 → kind_of row s r ≡ Justification Negative
      unfolding kind_of last_set
      kind-negative r lo hi =
          rw (ne_eqb s 0 (λ e. omega arith), eq-eqb s (row.sets - 1) (omega arith), le-ltb r 4 lo, lt-ltb r (row.last - 4) hi)

      pub kind-positive : (r : ℕ) → row.last - 4 ≤ r → r < row.last → kind_of row s r ≡ Justification Positive
      unfolding kind_of last_set
      kind-positive r lo hi =
          rw (ne_eqb s 0 (λ e. omega arith), eq-eqb s (row.sets - 1) (omega arith), le-ltb r 4 (omega (arith, sh.last_least)), le-ltb r (row.last - 4) lo, lt-ltb r row.last hi)

      pub kind-after : (r : ℕ) → row.last ≤ r → kind_of row s r ≡ Tributary
      unfolding kind_of last_set
      kind-after r lo =
          rw (ne_eqb s 0 (λ e. omega arith), eq-eqb s (row.sets - 1) (omega arith), le-ltb r 4 (omega (arith, sh.last_least)), le-ltb r (row.last - 4) (omega arith), le-ltb r row.last lo)

    -- one between
    module _ (between : s + 1 ≢ row.sets) where
      not_last : s ≢ row.sets - 1
      not_last e = between (omega (arith, sh.later_set))

      pub kind-fixed : (r : ℕ) → 4 ≤ r → r < row.middle → kind_of row s r ≡ Service Fixed
      unfolding kind_of middle_set
      kind-fixed r lo hi = rw (ne_eqb s 0 (λ e. omega arith), ne_eqb s (row.sets - 1) not_last, le-ltb r 4 lo, lt-ltb r row.middle hi)

      pub kind-between : (r : ℕ) → row.middle ≤ r → kind_of row s r ≡ Tributary
      unfolding kind_of middle_set
      kind-between r lo =
          rw (ne_eqb s 0 (λ e. omega arith), ne_eqb s (row.sets - 1) not_last, le-ltb r 4 (omega (arith, sh.middle_least)), le-ltb r row.middle lo)
