-- One law for every call: the first row of a table that applies, found from the front, is the first that applies; and there is no second such answer.
use mathlib.Core.Path.{◌≡◌, refl, sym, ◌∙◌}
use mathlib.Core.Bool.{Bool, cond, true, false}
use mathlib.Core.List.{List, [], ◌∷◌}
use Prim.Native.Nat.{ℕ, zero, suc, ◌<◌}
use native.Mathlib.Omega.{arith}
use lib.ListN.{length}
use Rattle.refusals.specs.First.{Given, row_at, FirstThatApplies}

-- found from the front
abbrev pub first_of : List Given → ℕ
first_of [] = 0
first_of (g ∷ table) = cond g.applies g.number (first_of table)

-- a row more in front
in-front : (g : Given) (table : List Given) → FirstThatApplies table (first_of table) → FirstThatApplies (g ∷ table) (first_of (g ∷ table))
in-front g table rest = record { first = first; none = none }
  where
    first : (i : ℕ) → i < length (g ∷ table) → (row_at (g ∷ table) i).applies ≡ true → ((k : ℕ) → k < i → (row_at (g ∷ table) k).applies ≡ false)
        → first_of (g ∷ table) ≡ (row_at (g ∷ table) i).number
    first zero h on before = rw on
    first (suc i) h on before = rw (before 0 (omega arith)) (rest.first i (omega arith) on (λ k lt. before (suc k) (omega arith)))

    none : ((i : ℕ) → i < length (g ∷ table) → (row_at (g ∷ table) i).applies ≡ false) → first_of (g ∷ table) ≡ 0
    none off = rw (off 0 (omega arith)) (rest.none (λ i h. off (suc i) (omega arith)))

pub first-of : (table : List Given) → FirstThatApplies table (first_of table)
first-of [] = record { first = λ i h. absurd (omega arith); none = λ _. refl }
first-of (g ∷ table) = in-front g table (first-of table)

-- a row less, where the first does not apply
behind : (g : Given) (table : List Given) (a : ℕ) → g.applies ≡ false → FirstThatApplies (g ∷ table) a → FirstThatApplies table a
behind g table a e f =
    record {
      first = λ i h on before. f.first (suc i) (omega arith) on (below i before);
      none = λ off. f.none (all off);
    }
  where
    below : (i : ℕ) → ((k : ℕ) → k < i → (row_at table k).applies ≡ false) → (k : ℕ) → k < suc i → (row_at (g ∷ table) k).applies ≡ false
    below i before zero h = e
    below i before (suc k) h = before k (omega arith)

    all : ((i : ℕ) → i < length table → (row_at table i).applies ≡ false) → (i : ℕ) → i < length (g ∷ table) → (row_at (g ∷ table) i).applies ≡ false
    all off zero h = e
    all off (suc i) h = off i (omega arith)

by_front : (g : Given) (table : List Given) (a : ℕ) → FirstThatApplies (g ∷ table) a → (FirstThatApplies table a → a ≡ first_of table) → a ≡ first_of (g ∷ table)
by_front g table a f rest = go g.applies refl
  where
    go : (t : Bool) → g.applies ≡ t → a ≡ cond t g.number (first_of table)
    go true e = f.first 0 (omega arith) e (λ k h. absurd (omega arith))
    go false e = rest (behind g table a e f)

-- what is found from the front is what the table says, whatever else it may be
one_answer : (table : List Given) (a : ℕ) → FirstThatApplies table a → a ≡ first_of table
one_answer [] a f = f.none (λ i h. absurd (omega arith))
one_answer (g ∷ table) a f = by_front g table a f (one_answer table a)

pub no-second-answer : (table : List Given) (a b : ℕ) → FirstThatApplies table a → FirstThatApplies table b → a ≡ b
no-second-answer table a b x y = one_answer table a x ∙ sym (one_answer table b y)

-- a number that is found so
pub is-first : (table : List Given) (a : ℕ) → first_of table ≡ a → FirstThatApplies table a
is-first table a e = rw e at (first-of table)
