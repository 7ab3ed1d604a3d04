-- The reader's faults, a second time: a table of cases, each with its file, where specs/Captures.antt has one walk over the fields. "The reader refuses with 9 any
-- other run of tags and lengths, and names the byte where the field at fault begins or should begin (0 in other answers); only then is the level judged by 1 and the
-- line by 2." proofs/Faults.antt shows that the two are one.
use Rattle.std.specs.Prelude.{◌≡◌, Bool, true, List, [], ◌∷◌, ◌++◌, ℕ, ◌+◌, ◌≤◌, ◌<◌, length, replicate, Some, None}
use Rattle.digits.specs.Digits.{Bytes}
use Rattle.table.specs.declared.Row.{Row}
use Rattle.table.specs.Table.{level_of}
use Rattle.levels.specs.Sizes.{bad_line}
use Rattle.captures.specs.Captures.{field_of, file_of, unread, read_of}

-- these bytes do not begin with a field of this tag and of so many bytes, at least and at most
abbrev pub NoField : List ℕ → ℕ → ℕ → ℕ → Type 0
NoField bytes tag least most = (field after : List ℕ) → least ≤ length field → length field ≤ most → bytes ≡ field_of tag field ++ after → ⊥

-- a file as far as its level, and as far as its line
abbrev pub levelled : ℕ → List ℕ
levelled level = field_of 1 (level ∷ [])

abbrev pub lined : ℕ → List ℕ → List ℕ
lined level line = levelled level ++ field_of 2 line

pub record Faults : Type 0 where
  -- no level of length 1 at byte 0
  pub no_level : (file : List ℕ) → Bytes file → NoField file 1 1 1 → read_of file ≡ unread 9 0
  -- no line at byte 4
  pub no_line : (level : ℕ) (rest : List ℕ) → Bytes (levelled level ++ rest) → NoField rest 2 0 65535 → read_of (levelled level ++ rest) ≡ unread 9 4
  -- after the line something else than a label of 0 to 32 bytes: the byte after the line
  pub no_label : (level : ℕ) (line rest : List ℕ) → length line < 65536 → Bytes (lined level line ++ rest) → 0 < length rest → NoField rest 3 0 32
      → read_of (lined level line ++ rest) ≡ unread 9 (7 + length line)
  -- something after the label: the byte after the label
  pub after_label : (level : ℕ) (line label rest : List ℕ) → length line < 65536 → length label ≤ 32 → 0 < length rest
      → read_of (lined level line ++ (field_of 3 label ++ rest)) ≡ unread 9 (10 + length line + length label)
  -- only then the level, naming byte 0
  pub level_judged : (level : ℕ) (line label : List ℕ) (labelled : Bool) → length line < 65536 → (labelled ≡ true → length label ≤ 32)
      → level_of level ≡ None → read_of (file_of level line label labelled) ≡ unread 1 0
  -- and then the line, naming byte 0
  pub line_judged : (level : ℕ) (line label : List ℕ) (labelled : Bool) (row : Row) → length line < 65536 → (labelled ≡ true → length label ≤ 32)
      → level_of level ≡ Some row → bad_line row (length line) ≡ true → read_of (file_of level line label labelled) ≡ unread 2 0

-- worked files: the bytes, the refusal and the byte it names
pub record Worked : Type 0 where
  pub file : List ℕ
  pub refusal : ℕ
  pub byte : ℕ

abbrev pub worked : List ℕ → ℕ → ℕ → Worked
worked file refusal byte = record { file = file; refusal = refusal; byte = byte }

abbrev pub Told : Worked → Type 0
Told w = ((read_of w.file).refusal ≡ w.refusal) × ((read_of w.file).byte ≡ w.byte)

abbrev pub EveryTold : List Worked → Type 0
EveryTold [] = Unit {0}
EveryTold (w ∷ ws) = Told w × EveryTold ws

abbrev pub worked_files : List Worked
worked_files =
    -- nothing at all; a level of two bytes; a line first
    worked [] 9 0
    ∷ worked (1 ∷ 0 ∷ 2 ∷ 2 ∷ 2 ∷ 2 ∷ 0 ∷ 0 ∷ []) 9 0
    ∷ worked (2 ∷ 0 ∷ 0 ∷ 1 ∷ 0 ∷ 1 ∷ 2 ∷ []) 9 0
    -- a level alone; a label in place of the line; a line of 106 bytes of which 105 are there
    ∷ worked (1 ∷ 0 ∷ 1 ∷ 2 ∷ []) 9 4
    ∷ worked (1 ∷ 0 ∷ 1 ∷ 2 ∷ 3 ∷ 0 ∷ 0 ∷ []) 9 4
    ∷ worked (1 ∷ 0 ∷ 1 ∷ 2 ∷ 2 ∷ 0 ∷ 106 ∷ replicate 105 0) 9 4
    -- a line of no bytes, and after it: tag 4; a label of 33 bytes; a label that is cut
    ∷ worked (1 ∷ 0 ∷ 1 ∷ 2 ∷ 2 ∷ 0 ∷ 0 ∷ 4 ∷ 0 ∷ 0 ∷ []) 9 7
    ∷ worked (1 ∷ 0 ∷ 1 ∷ 2 ∷ 2 ∷ 0 ∷ 0 ∷ 3 ∷ 0 ∷ 33 ∷ replicate 33 65) 9 7
    ∷ worked (1 ∷ 0 ∷ 1 ∷ 2 ∷ 2 ∷ 0 ∷ 0 ∷ 3 ∷ 0 ∷ 2 ∷ 65 ∷ []) 9 7
    -- a label of two bytes, and a byte after it; the same where the level is no level and the line no whole frame: 9 comes first
    ∷ worked (1 ∷ 0 ∷ 1 ∷ 2 ∷ 2 ∷ 0 ∷ 0 ∷ 3 ∷ 0 ∷ 2 ∷ 65 ∷ 66 ∷ 0 ∷ []) 9 12
    ∷ worked (1 ∷ 0 ∷ 1 ∷ 5 ∷ 2 ∷ 0 ∷ 1 ∷ 0 ∷ 3 ∷ 0 ∷ 2 ∷ 65 ∷ 66 ∷ 0 ∷ []) 9 13
    -- level 5; level 5 and a line of one byte: 1 comes before 2; level 2 and a line of one byte
    ∷ worked (1 ∷ 0 ∷ 1 ∷ 5 ∷ 2 ∷ 0 ∷ 0 ∷ []) 1 0
    ∷ worked (1 ∷ 0 ∷ 1 ∷ 5 ∷ 2 ∷ 0 ∷ 1 ∷ 0 ∷ []) 1 0
    ∷ worked (1 ∷ 0 ∷ 1 ∷ 2 ∷ 2 ∷ 0 ∷ 1 ∷ 0 ∷ []) 2 0
    -- no fault: a line of no bytes, with and without a label of no bytes
    ∷ worked (1 ∷ 0 ∷ 1 ∷ 2 ∷ 2 ∷ 0 ∷ 0 ∷ []) 0 0
    ∷ worked (1 ∷ 0 ∷ 1 ∷ 2 ∷ 2 ∷ 0 ∷ 0 ∷ 3 ∷ 0 ∷ 0 ∷ []) 0 0
    ∷ []
