-- What the call that extracts by notes answers and what it leaves in the buffer, refused or not, for any input. Document 01, "Multiplexing and
-- demultiplexing from a known start" and "Refusal numbers"; document 02, requests 7 and 10. What it refuses, 1 to 5, and its answer are those of every
-- call that goes by notes: crates/levels/specs/Judging.antt.
use Rattle.std.specs.Prelude.{◌≡◌, List, ℕ, ◌/◌, length}
use Rattle.table.specs.declared.Row.{Row}
use Rattle.levels.specs.Faults.{Counted}
use Rattle.table.specs.Table.{level_of}
use Rattle.levels.specs.Sizes.{on_level}
use Rattle.levels.specs.Faults.{fault_of, answered, left_by}
use Rattle.extraction.specs.Quarters.{quarters_from}

-- the buffer at the end: the quarters extracted by the notes and the vote before them, or as it was
abbrev pub buffer_on : Row → ℕ → List ℕ → List ℕ → List ℕ → List ℕ
buffer_on row earlier line notes buffer =
    left_by (fault_of row earlier (length line) notes (length buffer)) (quarters_from row earlier notes line (length buffer / 4)) buffer

abbrev pub buffer_after : ℕ → ℕ → List ℕ → List ℕ → List ℕ → List ℕ
buffer_after level earlier line notes buffer = on_level (level_of level) (λ (row : Row). buffer_on row earlier line notes buffer) buffer

-- the whole statement of the call: its answer, and the buffer that it leaves
abbrev pub ExtractMet : ℕ → ℕ → List ℕ → List ℕ → List ℕ → Counted → List ℕ → Type 0
ExtractMet level earlier line notes buffer answer left =
    (answer ≡ answered level earlier (length line) notes (length buffer)) × (left ≡ buffer_after level earlier line notes buffer)
