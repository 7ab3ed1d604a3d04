-- What it means that the two engines answer alike: their answers are records of their own, alike field by field.
use Rattle.std.specs.Prelude.{◌≡◌}
use Rattle.levels.specs.Faults as counted
use Rattle.reading.specs.Reading as noted
use Rattle.engine.specs.Engine as plain

-- of multiplexing and of extraction
pub record SameCounted (a : counted.Counted) (b : plain.Answered) : Type 0 where
  pub refusal : a.refusal ≡ b.refusal
  pub frame : a.frame ≡ b.frame
  pub counts : a.counts ≡ b.counts

-- of reading the notes
pub record SameNoted (a : noted.Noted) (b : plain.NotesRead) : Type 0 where
  pub refusal : a.refusal ≡ b.refusal
  pub alignment : a.alignment ≡ b.alignment
  pub dissent : a.dissent ≡ b.dissent
