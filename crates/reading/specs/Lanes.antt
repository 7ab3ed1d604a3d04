-- How the four control groups of a frame are counted at once: four counts side by side in one number, eight bits to a tributary, the
-- fourth tributary's lowest; and what a frame says by such counts.
use Rattle.std.specs.Prelude.{List, [], ◌∷◌, ℕ, ◌+◌, ◌*◌, ◌/◌, ◌%◌}
use Rattle.table.specs.declared.Row.{Row}
use Rattle.levels.specs.Vote.{votes_for, vote_by, group_of}
use Rattle.reading.specs.declared.FrameRead.{FrameRead}
use Rattle.reading.specs.Notes.{bit_of, service_at}

abbrev pub beside : ℕ → ℕ → ℕ → ℕ → ℕ
beside a b c d = a * 16777216 + b * 65536 + c * 256 + d

-- the four digits of a column, of which the first is worth 8, as counts
abbrev pub apart_of : ℕ → ℕ
apart_of column = beside (column / 8) (column / 4 % 2) (column / 2 % 2) (column % 2)

-- the ones among the first k digits of tributary j's control group (from 0) in frame f; and those of the four
unfoldable pub ones_of : Row → List ℕ → ℕ → ℕ → ℕ → ℕ
ones_of row ds f k j = votes_for 1 (group_of ds (f * row.digits + (row.set + j)) row.set k)

abbrev pub group_ones : Row → List ℕ → ℕ → ℕ → ℕ
group_ones row ds f k = beside (ones_of row ds f k 0) (ones_of row ds f k 1) (ones_of row ds f k 2) (ones_of row ds f k 3)

-- the service digits of frame f as a number, the first worth 1
abbrev pub services_of : Row → List ℕ → ℕ → ℕ
services_of row ds f = service_at row ds f 0 + 2 * service_at row ds f 1 + 4 * service_at row ds f 2 + 8 * service_at row ds f 3

-- what a frame says whose groups of so many digits have so many ones, with these service digits
abbrev pub said_by : ℕ → ℕ → ℕ → ℕ → ℕ → ℕ → FrameRead
said_by size a b c d services =
    record {
      note = bit_of (vote_by a size).stuffed
          + 2 * bit_of (vote_by b size).stuffed
          + 4 * bit_of (vote_by c size).stuffed
          + 8 * bit_of (vote_by d size).stuffed
          + 16 * services;
      dissent = (vote_by a size).dissent ∷ (vote_by b size).dissent ∷ (vote_by c size).dissent ∷ (vote_by d size).dissent ∷ [];
    }
