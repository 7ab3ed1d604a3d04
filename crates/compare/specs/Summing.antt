-- What the walk over a stretch of two lines has at place n: what differs in the stretch before it is counted.
use Rattle.std.specs.Prelude.{◌≡◌, List, ℕ}
use Rattle.table.specs.declared.Row.{Row}
use Rattle.tally.specs.Tally.{all_of, sums_of}
use Rattle.compare.specs.Lines.{differ_from}

-- the fifteen sums and all of them, of the stretch that begins at `first`
pub record Summed (row : Row) (one other : List ℕ) (first n all : ℕ) (sums : List ℕ) : Type 0 where
  pub the_all : all ≡ all_of (differ_from one other first) n
  pub the_sums : sums ≡ sums_of row (differ_from one other first) n
