-- The walk over a line: what a reader gives that is stepped again and again. proofs/Walk.antt has its theorems.
use Rattle.std.specs.Prelude.{cond, List, [], ◌∷◌, ℕ, zero, suc}
use Rattle.line_reader.specs.declared.LineReader.{LineReader}
use Rattle.line_reader.specs.declared.Step.{Step}
use Rattle.line_reader.specs.Step.{next_of, moved_on}

-- the reader after n steps
unfoldable pub reader_after : ℕ → LineReader → LineReader
reader_after zero r = r
reader_after (suc n) r = reader_after n (moved_on r)

-- what the first n steps give, in order
unfoldable pub steps_of : ℕ → LineReader → List Step
steps_of zero r = []
steps_of (suc n) r = next_of r ∷ steps_of n (moved_on r)

-- the digits among them
unfoldable pub digits_given : List Step → List ℕ
digits_given [] = []
digits_given (s ∷ ss) = cond s.ended (digits_given ss) (s.digit ∷ digits_given ss)
