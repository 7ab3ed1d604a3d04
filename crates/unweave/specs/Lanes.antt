-- Columns of four digits taken apart. Tributary j (from 0) has the digits at places p + j, p + j + 4 and so on, in the order of their places.
use Rattle.std.specs.Prelude.{Bool, cond, List, [], ◌∷◌, ◌++◌, ℕ, zero, suc, ◌+◌, ◌*◌, ◌-◌, ◌/◌, ◌%◌, ◌^◌, eqb, get_or}
use Rattle.table.specs.declared.Row.{Row}
use Rattle.levels.specs.declared.order.Action.{Action}
use Rattle.levels.specs.declared.places.Sign.{Sign}
use Rattle.levels.specs.declared.places.Sign.TheVariants.{Negative, Positive}
use Rattle.levels.specs.declared.places.Kind.{Kind}
use Rattle.levels.specs.declared.places.Kind.TheVariants.{Justification}
use Rattle.levels.specs.Places.{kind_of, head_end}
use Rattle.levels.specs.Order.{has_negative, carried}

-- every fourth digit from place p on, k of them
unfoldable pub picked : ℕ → List ℕ → ℕ → List ℕ
picked zero ds p = []
picked (suc k) ds p = picked k ds p ++ (get_or ds (p + 4 * k) 0 ∷ [])

-- what a run of n columns from place p on hands to tributary j
abbrev pub run_digits : List ℕ → ℕ → ℕ → ℕ → List ℕ
run_digits ds p n j = picked n ds (p + j)

-- what a column from place p on hands to tributary j, whose place in it carries or not: its digit, or none
abbrev pub column_digits : List ℕ → ℕ → Bool → ℕ → List ℕ
column_digits ds p carries j = cond carries (get_or ds (p + j) 0 ∷ []) []

-- so the column whose places are of a kind, in a frame that acts so for each tributary; and the justification column of a sign
abbrev pub kind_digits : List ℕ → ℕ → Kind → (ℕ → Action) → ℕ → List ℕ
kind_digits ds p kind acts j = column_digits ds p (carried kind (acts j)) j

abbrev pub justification_digits : List ℕ → ℕ → Sign → (ℕ → Action) → ℕ → List ℕ
justification_digits ds p sign acts j = kind_digits ds p (Justification sign) acts j

-- k columns behind the control digits of set s, from place p on, each by what its places are
unfoldable pub head_to : Row → List ℕ → ℕ → ℕ → (ℕ → Action) → ℕ → ℕ → List ℕ
head_to row ds p s acts zero j = []
head_to row ds p s acts (suc k) j =
    head_to row ds p s acts k j ++ kind_digits ds (p + (4 + 4 * k)) (kind_of row s (4 + 4 * k)) acts j

-- that of the negative places, where the level has them: they come next to the control digits
abbrev pub negative_digits : Row → List ℕ → ℕ → (ℕ → Action) → ℕ → List ℕ
negative_digits row ds p acts j = cond (has_negative row) (justification_digits ds (p + 4) Negative acts j) []

-- what set s hands to tributary j, from place p on, in a frame that acts so: the last set's head ends with the negative places, then the positive ones,
-- so that the negative place has the earlier digit; behind its head every set has a run
abbrev pub head_digits : Row → List ℕ → ℕ → ℕ → (ℕ → Action) → ℕ → List ℕ
head_digits row ds p s acts j =
    cond (eqb s (row.sets - 1)) (negative_digits row ds p acts j ++ justification_digits ds (p + (row.last - 4)) Positive acts j) []

abbrev pub set_digits : Row → List ℕ → ℕ → ℕ → (ℕ → Action) → ℕ → List ℕ
set_digits row ds p s acts j = head_digits row ds p s acts j ++ run_digits ds (p + head_end row s) ((row.set - head_end row s) / 4) j

-- tributary j's row (from 0) of columns turned over: sixteen digits, as a number
abbrev pub row_of : ℕ → ℕ → ℕ
row_of rows j = rows / 2 ^ (16 * (3 - j)) % 2 ^ 16
