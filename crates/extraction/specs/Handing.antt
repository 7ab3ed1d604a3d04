-- The tributaries under way: after so many columns of a line, each writer has put out, into its quarter, the digits of its tributary that
-- these columns carry, by the notes and the vote before them.
use Rattle.std.specs.Prelude.{◌≡◌, List, ℕ, ◌*◌, ◌<◌, length}
use Rattle.digits.specs.Digits.{digits_of}
use Rattle.words.specs.Words.{out_from}
use Rattle.table.specs.declared.Row.{Row}
use Rattle.levels.specs.Sizes.{Fits}
use Rattle.unweave.specs.declared.Writers.{Writers}
use Rattle.unweave.specs.Quarters.{part_of, writer_of, Roomy}
use Rattle.extraction.specs.Quarters.{taken_to}

pub record Handing (row : Row) (earlier : ℕ) (line notes : List ℕ) (q x : ℕ) (buffer : List ℕ) (w : Writers) : Type 0 where
  pub fits : Fits row (length line) (length notes) q
  pub size : length buffer ≡ 4 * q
  pub within : Roomy q (λ (j : ℕ). 0) w
  pub out : (j : ℕ) → j < 4 → out_from 0 (part_of q buffer j) (writer_of w j) ≡ taken_to row earlier notes (digits_of line) j x
