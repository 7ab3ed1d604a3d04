-- What `digit_by` says of a place that carries a digit, of one that carries none, and of the service digits that a note has; and that a place of the word
-- is one of its L digits.
use mathlib.Core.Path.{◌≡◌, refl, sym, ◌∙◌, ap}
use mathlib.Core.Bool.{Bool, true, false, true≢false, false≢true}
use Prim.Native.Nat.{ℕ, ◌+◌, ◌-◌, ◌/◌, ◌%◌, ◌^◌, ◌≤◌, ◌<◌}
use native.Mathlib.Omega.{arith}
use native.Mathlib.Decide.{dec_lt}
use lib.Dec.{eqb, ltb}
use borrow.Author.Tests.{le-ltb}
use Rattle.digits.proofs.Lists.{of_four}
use Rattle.table.specs.declared.Row.{Row}
use Rattle.levels.specs.declared.order.Action.{Action}
use Rattle.levels.specs.declared.places.Sign.{Sign}
use Rattle.levels.specs.declared.places.Kind.{Kind}
use Rattle.levels.specs.declared.places.Kind.TheVariants.{Word, Service, Control, Justification, Tributary}
use Rattle.levels.specs.Places.{noted_digit, first_set, middle_set, last_set, kind_of}
use Rattle.levels.specs.Order.{carried}
use Rattle.levels.proofs.Choice.{cond-by}
use Rattle.levels.specs.Line.{service_by, digit_by}

-- a place that carries a digit has the tributary's next digit
pub digit-carried : (row : Row) (note : ℕ) (act : Action) (j r next : ℕ) (k : Kind) → carried k act ≡ true → digit_by row note act j r next k ≡ next
digit-carried row note act j r next Word c = absurd (false≢true c)
digit-carried row note act j r next (Service s) c = absurd (false≢true c)
digit-carried row note act j r next Control c = absurd (false≢true c)
digit-carried row note act j r next (Justification sign) c = rw c
digit-carried row note act j r next Tributary c = refl

-- a justification place that carries none is sent as 1, and a tributary place always carries one
module _ (row : Row) (note : ℕ) (act : Action) (j r next : ℕ) (k : Kind) (none : carried k act ≡ false) where
  pub unused-one : (sign : Sign) → k ≡ Justification sign → 1 ≡ digit_by row note act j r next k
  unused-one sign e = let c : carried (Justification sign) act ≡ false = rw e at none in rw (e, c)

  pub never-idle : k ≡ Tributary → 1 ≡ digit_by row note act j r next k
  never-idle e = absurd (true≢false (rw e at none))

-- the service digits that a note has stand in the order of its bits, from bit 4 on
pub noted-bit : (note k : ℕ) → k < 4 → service_by note (noted_digit k) ≡ note / 2 ^ (4 + k) % 2
noted-bit note = of_four (λ (k : ℕ). service_by note (noted_digit k) ≡ note / 2 ^ (4 + k) % 2) refl refl refl refl

abbrev is_word : Kind → Bool
is_word Word = true
is_word (Service s) = false
is_word Control = false
is_word (Justification sign) = false
is_word Tributary = false

not-word : (row : Row) (s r : ℕ) → row.len ≤ r → is_word (kind_of row s r) ≡ false
unfolding kind_of first_set middle_set last_set
not-word row s r h =
    let no : Kind → Type 0 = λ (k : Kind). is_word k ≡ false in
    cond-by no (eqb s 0) (rw (le-ltb r row.len h) (cond-by no (ltb r row.first) refl refl))
    (cond-by no (eqb s (row.sets - 1)) (cond-by no (ltb r 4) refl (cond-by no (ltb r (row.last - 4)) refl (cond-by no (ltb r row.last) refl refl)))
    (cond-by no (ltb r 4) refl (cond-by no (ltb r row.middle) refl refl)))

-- a place of the word is one of its L digits
pub word-within : (row : Row) (s r : ℕ) → kind_of row s r ≡ Word → r < row.len
word-within row s r e =
    elim (dec_lt r row.len) [ yes h ↦ h | no h ↦ absurd (true≢false (sym (ap is_word e) ∙ not-word row s r (omega arith))) ]
