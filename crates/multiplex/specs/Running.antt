-- A run that is put out, and all of a line: what the inner functions leave beside `Sending` of crate heads. The public call's definitions are in
-- specs/Line.antt of crate levels and specs/Multiplex.antt; these lie between them and the loops.
use Rattle.std.specs.Prelude.{◌≡◌, List, [], ◌∷◌, ℕ, ◌+◌, ◌*◌, length, get_or}
use Rattle.words.specs.declared.Writer.{Writer}
use Rattle.words.specs.Words.{Appended}
use Rattle.weave.specs.declared.Next.{Next}
use Rattle.weave.specs.Weave.{woven}
use Rattle.table.specs.declared.Row.{Row}
use Rattle.levels.specs.Order.{counts_of}
use Rattle.levels.specs.Line.{line_of}
use Rattle.heads.specs.Columns.{tributary_of}

-- the four indices, each by itself
abbrev pub next_of : List ℕ → Next
next_of next = record { a = get_or next 0 0; b = get_or next 1 0; c = get_or next 2 0; d = get_or next 3 0 }

-- n columns from the four quarters are put out, and each index is n further on
pub record Ran (buffer next : List ℕ) (n : ℕ) (old new : List ℕ) (w r : Writer) (next' : List ℕ) : Type 0 where
  pub columns : Appended old new w r (4 * n) (woven n (tributary_of buffer 0) (tributary_of buffer 1) (tributary_of buffer 2) (tributary_of buffer 3) (next_of next))
  pub index : next' ≡ (get_or next 0 0 + n) ∷ (get_or next 1 0 + n) ∷ (get_or next 2 0 + n) ∷ (get_or next 3 0 + n) ∷ []

-- all of the line
pub record AllSent (row : Row) (earlier : ℕ) (notes buffer old counts new : List ℕ) : Type 0 where
  pub counted : counts ≡ counts_of row earlier notes (length notes)
  pub line : new ≡ line_of row earlier notes (tributary_of buffer) (length old)
