-- What the walks over two lines have at place n: what differs before it is counted, and listed.
use Rattle.std.specs.Prelude.{◌≡◌, cond, List, ℕ, ◌+◌, ◌*◌, ◌/◌, ◌%◌, ◌≤◌, ◌<◌, min, ltb, length, get_or, set}
use Rattle.table.specs.declared.Row.{Row}
use Rattle.levels.specs.Table.{Shared}
use Rattle.levels.specs.Sizes.{frames_of}
use Rattle.tally.specs.Tally.{all_of, sums_of, differ_at}
use Rattle.differing.specs.Differing.{places_to, list_of}

-- two lines of one length, whole frames and no longer than 64 of them are
pub record Lines (row : Row) (one other : List ℕ) : Type 0 where
  pub shared : Shared row
  pub same_length : length one ≡ length other
  pub short : length one ≤ 65536
  pub whole : length one ≡ frames_of row (length one) * row.bytes

-- frame f is in the line
abbrev pub InFrame : Row → List ℕ → ℕ → Type 0
InFrame row one f = (f + 1) * row.digits ≤ 8 * length one

-- the fifteen sums up to place n
abbrev pub SumsTo : Row → List ℕ → List ℕ → ℕ → List ℕ → Type 0
SumsTo row one other n sums = sums ≡ sums_of row (differ_at one other) n

-- the list up to place n, and how many there are: exactly, as long as there is room in the list
pub record Listed (row : Row) (one other : List ℕ) (n all : ℕ) (places : List ℕ) : Type 0 where
  pub the_places : places ≡ list_of row (places_to (differ_at one other) n)
  pub the_all : min all 64 ≡ min (all_of (differ_at one other) n) 64
  pub few : all ≤ n

-- all of it
pub record Counted (row : Row) (one other : List ℕ) (n all : ℕ) (sums places : List ℕ) : Type 0 where
  pub the_all : all ≡ all_of (differ_at one other) n
  pub the_sums : sums ≡ sums_of row (differ_at one other) n
  pub the_places : places ≡ list_of row (places_to (differ_at one other) n)

-- place p put into the list behind so many others, where there is room
abbrev pub put_place : Row → ℕ → ℕ → List ℕ → List ℕ
put_place row p before places =
    cond (ltb before 64) (set (set places (2 * before) (p / row.digits)) (2 * before + 1) (p % row.digits)) places

-- the bytes from one on and before another are equal
abbrev pub EqualBytes : List ℕ → List ℕ → ℕ → ℕ → Type 0
EqualBytes one other from to = (i : ℕ) → from ≤ i → i < to → get_or one i 0 ≡ get_or other i 0
