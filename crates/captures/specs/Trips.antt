-- What the theorems over writer and reader speak of: what a reading gives ("Reading gives back what was written, and every accepted file is
-- what the writer makes of its reading"), and the runs of fields that refusal 9 is not for.
use Rattle.std.specs.Prelude.{◌≡◌, Bool, cond, true, List, [], ℕ, ◌≤◌, ◌<◌, length, take, drop}
use Rattle.captures.specs.declared.Reading.{Reading}
use Rattle.captures.specs.Captures.{file_of, bytes_in}

-- this reading of a file is accepted and gives this level, this line and this label, or none
pub record Gives (file : List ℕ) (found : Reading) (level : ℕ) (line label : List ℕ) (labelled : Bool) : Type 0 where
  pub accepted : found.refusal ≡ 0
  pub the_level : found.level ≡ level
  pub the_line : bytes_in file found.line ≡ line
  pub is_labelled : found.labelled ≡ labelled
  pub the_label : bytes_in file found.label ≡ cond labelled label []

-- a file is a run of the fields in their order: some level in a byte's field, some line, and a label of at most 32 bytes or none
pub record Run (file : List ℕ) : Type 0 where
  pub level : ℕ
  pub line : List ℕ
  pub label : List ℕ
  pub labelled : Bool
  pub line_fits : length line < 65536
  pub label_fits : labelled ≡ true → length label ≤ 32
  pub is : file ≡ file_of level line label labelled

-- "bytes after the file stay": so many bytes are the file that was written, and those after them are as they were
abbrev pub Stays : List ℕ → List ℕ → List ℕ → ℕ → Type 0
Stays written lent left bytes = (take bytes left ≡ written) × (drop bytes left ≡ drop bytes lent)
