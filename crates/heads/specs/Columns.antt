-- The columns of a head: what a place of a head and a column of four leave, and what they ask. They lie between the line's definition
-- (specs/Line.antt of crate levels) and the loops.
use Rattle.std.specs.Prelude.{◌≡◌, cond, true, List, ℕ, ◌+◌, ◌*◌, ◌/◌, ◌%◌, ◌^◌, ◌<◌, eqb, ltb, length, get_or}
use Rattle.digits.specs.Digits.{digits_of, tab, written}
use Rattle.table.specs.declared.Row.{Row}
use Rattle.levels.specs.declared.order.Action.{Action}
use Rattle.levels.specs.declared.places.Kind.{Kind}
use Rattle.levels.specs.Places.{kind_of}
use Rattle.levels.specs.Table.{Shared}
use Rattle.levels.specs.Order.{acts_by, carried}
use Rattle.levels.specs.Sizes.{quarter_of}
use Rattle.levels.specs.Line.{digit_by}

-- the digits of tributary j
abbrev pub tributary_of : List ℕ → ℕ → List ℕ
tributary_of buffer j = digits_of (quarter_of buffer j)

-- one place of a head, of this kind and of tributary j, in a frame that acts so: its digit, and its tributary's index is one further on where the place
-- carries one
pub record Placed (row : Row) (note : ℕ) (act : Action) (kind : Kind) (j r : ℕ) (buffer next : List ℕ) (d : ℕ) (next' : List ℕ) : Type 0 where
  pub digit : d ≡ digit_by row note act j r (get_or (tributary_of buffer j) (get_or next j 0) 0) kind
  pub binary : d < 2
  pub index : (k : ℕ) → k < 4 → get_or next' k 0 ≡ get_or next k 0 + cond (eqb k j) (cond (carried kind act) 1 0) 0
  pub kept : length next' ≡ length next

-- the first k places of the column from place r of a set on, as a number
pub record PlacedTo (row : Row) (note : ℕ) (acts : ℕ → Action) (set r : ℕ) (buffer next : List ℕ) (k word : ℕ) (next' : List ℕ) : Type 0 where
  pub few : word < 2 ^ k
  pub digits : written k word
      ≡ tab k 0 (λ (j : ℕ). digit_by row note (acts j) j (r + j) (get_or (tributary_of buffer j) (get_or next j 0) 0) (kind_of row set (r + j)))
  pub index : (j : ℕ) → j < 4 → get_or next' j 0 ≡ get_or next j 0 + cond (ltb j k) (cond (carried (kind_of row set (r + j)) (acts j)) 1 0) 0
  pub kept : length next' ≡ length next

-- what such a column relies on: each index is small, and where its place carries a digit the quarter, of so many bytes, has one
abbrev pub Rely : Row → (ℕ → Action) → ℕ → ℕ → ℕ → List ℕ → Type 0
Rely row acts set r quarter next =
    (j : ℕ) → j < 4 → (get_or next j 0 < 65536) × (carried (kind_of row set (r + j)) (acts j) ≡ true → get_or next j 0 < 8 * quarter)

-- and all that the column of a head from place r on asks, in a frame with this note after one with the preceding note
pub record ColumnAsked (row : Row) (preceding note set r : ℕ) (buffer next : List ℕ) : Type 0 where
  pub shared : Shared row
  pub quarters : length buffer ≡ 4 * (length buffer / 4)
  pub four : length next ≡ 4
  pub column : r % 4 ≡ 0
  pub rely : Rely row (acts_by row preceding note) set r (length buffer / 4) next

-- and all that it leaves: its four places as a number, and each index after them
abbrev pub ColumnMet : Row → ℕ → ℕ → ℕ → ℕ → List ℕ → List ℕ → ℕ → List ℕ → Type 0
ColumnMet row preceding note set r buffer next word next' = PlacedTo row note (acts_by row preceding note) set r buffer next 4 word next'
