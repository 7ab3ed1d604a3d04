-- What the inner functions leave in the line, place by place. The public call's definitions are in specs/Swap.antt; these lie between them and the loop.
use Rattle.std.specs.Prelude.{◌≡◌, Bool, cond, ◌&&◌, List, ℕ, ◌+◌, ◌*◌, ◌-◌, ◌/◌, ◌%◌, ◌^◌, ◌<◌, ◌≤◌, eqb, leb, ltb, length, get_or, set}
use Rattle.digits.specs.Digits.{digits_of, Bytes}
use Rattle.table.specs.declared.Row.{Row}
use Rattle.levels.specs.declared.order.Action.{Action}
use Rattle.levels.specs.declared.places.At.{At}
use Rattle.levels.specs.Places.{head_end, is_own, kind_of}
use Rattle.levels.specs.Order.{actions, carried, before}
use Rattle.levels.specs.Line.{digit_by}
use Rattle.swap.specs.Swap.{swapped_digit}

-- one place of a walk: an own place gets its digit, and the next digit is one further on where the place carries one
pub record Put (row : Row) (at : At) (old : List ℕ) (p : ℕ) (ds : List ℕ) (i note : ℕ) (act : Action) (j next : ℕ) (new : List ℕ) : Type 0 where
  pub index : next ≡ i + cond (carried (kind_of row at.set at.place) act) 1 0
  pub digits : digits_of new
      ≡ cond (is_own (kind_of row at.set at.place)) (set (digits_of old) p (digit_by row note act j at.place (get_or ds i 0) (kind_of row at.set at.place))) (digits_of old)
  pub bytes : Bytes old → Bytes new

-- the places of tributary j in eight columns, as a number: 1 at each of them
abbrev pub own_places : ℕ → ℕ
own_places j = 286331153 * 2 ^ (3 - j)

-- place p stands in the k columns from column x on
abbrev pub among : ℕ → ℕ → ℕ → Bool
among x k p = leb x (p / 4) && ltb (p / 4) (x + k)

-- k columns from column x on: tributary j has the digits ds from i on at its places of them, and every other place stays
pub record Ran (old : List ℕ) (x k : ℕ) (ds : List ℕ) (i j : ℕ) (new : List ℕ) : Type 0 where
  pub digits : (p : ℕ) → get_or (digits_of new) p 0 ≡ cond (among x k p && eqb (p % 4) j) (get_or ds (i + (p / 4 - x)) 0) (get_or (digits_of old) p 0)
  pub kept : length new ≡ length old
  pub bytes : Bytes new

-- k columns ahead that go by whole bytes: pairs of them, eight at least, up to the set's end and in the frame's last set before its last column, behind the
-- head, from a byte's first column on
pub record Ahead (row : Row) (at : At) (x k : ℕ) : Type 0 where
  pub pairs : k % 2 ≡ 0
  pub eight : 0 < k → 8 ≤ k
  pub inside : at.place + 4 * k < row.set + 4
  pub last : row.sets ≤ at.set + 1 → at.place + 4 * k < row.set
  pub run : 0 < k → (x % 2 ≡ 0) × (head_end row at.set ≤ at.place)

-- every own place of tributary j has its digit; every other place stays
pub record Filled (row : Row) (earlier : ℕ) (notes ds : List ℕ) (j count : ℕ) (old new : List ℕ) : Type 0 where
  pub counted : count ≡ before row (actions row earlier notes j) j (2 * length old)
  pub digits : (p : ℕ) → p < 8 * length old → get_or (digits_of new) p 0 ≡ swapped_digit row earlier notes j ds (digits_of old) p
  pub kept : length new ≡ length old
  pub bytes : Bytes new
