-- "F = 0 is accepted: all counts are 0, multiplexing writes nothing, demultiplexing clears the quarters." (document 01)
use Rattle.std.specs.Prelude.{◌≡◌, List, [], ℕ, length, replicate}
use Rattle.levels.specs.Faults.{Counted}
use Rattle.levels.specs.Faults.{answered, send_answered}
use Rattle.reading.specs.Reading.{noted}
use Rattle.multiplex.specs.Multiplex.{line_after}
use Rattle.extraction.specs.Extract.{buffer_after}
use Rattle.promises.specs.Together.{zeros}

abbrev pub none_counted : Counted
none_counted = record { refusal = 0; frame = 0; counts = zeros }

-- an empty line, no notes, and this buffer
pub record NoFrames (level earlier : ℕ) (buffer : List ℕ) : Type 0 where
  pub sent : send_answered level earlier 0 [] (length buffer) ≡ none_counted
  pub unwritten : line_after level earlier [] [] buffer ≡ []
  pub read : noted level [] 0 ≡ record { refusal = 0; alignment = 0; dissent = zeros }
  pub extracted : answered level earlier 0 [] (length buffer) ≡ none_counted
  pub cleared : buffer_after level earlier [] [] buffer ≡ replicate (length buffer) 0
