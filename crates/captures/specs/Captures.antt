-- Captures kept in a file: what the writer and the reader answer, and what the writer leaves, refused or not, for any input. Request 1 of
-- document 02. Level and line are judged by the definitions that every other call uses.
use Rattle.std.specs.Prelude.{◌≡◌, Bool, cond, true, false, ◌&&◌, List, [], ◌∷◌, ◌++◌, ℕ, ◌+◌, ◌*◌, ◌/◌, ◌%◌, eqb, ltb, leb, length, get_or, take, drop, Result, Ok, Err}
use Rattle.table.specs.declared.Row.{Row}
use Rattle.table.specs.Table.{level_of}
use Rattle.levels.specs.Sizes.{on_level, bad_line}
use Rattle.refusal.specs.declared.Refusal.{Refusal}
use Rattle.refusal.specs.Refusal.{number_of}
use Rattle.captures.specs.declared.Part.{Part}
use Rattle.captures.specs.declared.Reading.{Reading}

-- ---- the file

-- "fields of a one-byte tag, a two-byte length (high byte first) and that many bytes"
abbrev pub field_of : ℕ → List ℕ → List ℕ
field_of tag bytes = tag ∷ length bytes / 256 ∷ length bytes % 256 ∷ bytes

-- "tag 1, the level, length 1; tag 2, the line; optionally tag 3, a site label": no label and a label of 0 bytes are two things
unfoldable pub file_of : ℕ → List ℕ → List ℕ → Bool → List ℕ
file_of level line label labelled = field_of 1 (level ∷ []) ++ (field_of 2 line ++ cond labelled (field_of 3 label) [])

-- ---- the writer

-- "refuses in the order 1, 2, 9 (a label over 32 bytes, ..), 4 (a buffer smaller than the file)": what comes after 1, or 0
unfoldable pub write_refusal : Row → ℕ → List ℕ → List ℕ → Bool → ℕ → ℕ
write_refusal row level line label labelled room =
    cond (bad_line row (length line)) 2
    (cond (labelled && ltb 32 (length label)) 9
    (cond (ltb room (length (file_of level line label labelled))) 4 0))

-- the writer's answer as numbers: the refusal, 0 for none, how many bytes the file has, and the byte that a refusal names
pub record Written : Type 0 where
  pub refusal : ℕ
  pub bytes : ℕ
  pub byte : ℕ

-- "naming byte 0": no refusal of the writer names another
abbrev pub unwritten : ℕ → Written
unwritten refusal = record { refusal = refusal; bytes = 0; byte = 0 }

-- the numbers of what the code answers
abbrev pub written_in : Result ℕ Refusal → Written
written_in (Ok bytes) = record { refusal = 0; bytes = bytes; byte = 0 }
written_in (Err refusal) = unwritten (number_of refusal)

-- the answer: the refusal, or how many bytes the file has
abbrev pub written_on : Row → ℕ → List ℕ → List ℕ → Bool → ℕ → Written
written_on row level line label labelled room =
    cond (eqb (write_refusal row level line label labelled room) 0)
    (record { refusal = 0; bytes = length (file_of level line label labelled); byte = 0 })
    (unwritten (write_refusal row level line label labelled room))

abbrev pub written_of : ℕ → List ℕ → List ℕ → Bool → ℕ → Written
written_of level line label labelled room = on_level (level_of level) (λ (row : Row). written_on row level line label labelled room) (unwritten 1)

-- a file in the buffer that was lent for it: "bytes after the file stay"
abbrev pub filed : List ℕ → List ℕ → List ℕ
filed file old = file ++ drop (length file) old

-- the lent bytes at the end
abbrev pub left_on : Row → ℕ → List ℕ → List ℕ → Bool → List ℕ → List ℕ
left_on row level line label labelled file =
    cond (eqb (write_refusal row level line label labelled (length file)) 0)
    (filed (file_of level line label labelled) file)
    file

abbrev pub left_of : ℕ → List ℕ → List ℕ → Bool → List ℕ → List ℕ
left_of level line label labelled file = on_level (level_of level) (λ (row : Row). left_on row level line label labelled file) file

-- on the way there a field is put behind the first p bytes, and those after it stay
abbrev pub put_at : ℕ → List ℕ → List ℕ → List ℕ
put_at p bytes old = take p old ++ (bytes ++ drop (p + length bytes) old)

-- the whole statement of `write`: its answer, and the file it leaves
abbrev pub WriteMet : ℕ → List ℕ → List ℕ → Bool → List ℕ → Written → List ℕ → Type 0
WriteMet level line label labelled file answer left =
    (answer ≡ written_of level line label labelled (length file)) × (left ≡ left_of level line label labelled file)

-- ---- the reader

-- the length that a field which begins at byte p gives, high byte first, and the byte after that field
abbrev pub length_at : List ℕ → ℕ → ℕ
length_at file p = 256 * get_or file (p + 1) 0 + get_or file (p + 2) 0

abbrev pub end_at : List ℕ → ℕ → ℕ
end_at file p = p + 3 + length_at file p

-- where that field's bytes stand in the file; and where there is no line or no label
abbrev pub part_at : List ℕ → ℕ → Part
part_at file p = record { start = p + 3; bytes = length_at file p }

abbrev pub nowhere : Part
nowhere = record { start = 0; bytes = 0 }

-- a field begins at byte p: it has this tag and a length from `least` to `most`, and it ends within the file. Where the file ends inside
-- the field's head, the field ends past it too
unfoldable pub field_at : List ℕ → ℕ → ℕ → ℕ → ℕ → Bool
field_at file p tag least most =
    eqb (get_or file p 0) tag && (leb least (length_at file p) && (leb (length_at file p) most && leb (end_at file p) (length file)))

-- refused: nothing is read, and "the byte where the field at fault begins or should begin" is named
abbrev pub unread : ℕ → ℕ → Reading
unread refusal byte = record { refusal = refusal; level = 0; line = nowhere; labelled = false; label = nowhere; byte = byte }

-- the level, and where the line and the label stand, whose fields begin at bytes 0, 4 and p
abbrev pub unlabelled : List ℕ → Reading
unlabelled file = record { refusal = 0; level = get_or file 3 0; line = part_at file 4; labelled = false; label = nowhere; byte = 0 }

abbrev pub labelled_at : List ℕ → ℕ → Reading
labelled_at file p = record { refusal = 0; level = get_or file 3 0; line = part_at file 4; labelled = true; label = part_at file p; byte = 0 }

-- after the line, from byte p on: "optionally tag 3, a site label of 0 to 32 bytes", "nothing after"
unfoldable pub after_line : List ℕ → ℕ → Reading
after_line file p =
    cond (eqb p (length file)) (unlabelled file)
    (cond (field_at file p 3 0 32) (cond (eqb (end_at file p) (length file)) (labelled_at file p) (unread 9 (end_at file p))) (unread 9 p))

-- "The reader refuses with 9 any other run of tags and lengths": tag 1 of length 1 at byte 0, tag 2 at byte 4, what comes after the line
unfoldable pub fields_of : List ℕ → Reading
fields_of file = cond (field_at file 0 1 1 1) (cond (field_at file 4 2 0 65535) (after_line file (end_at file 4)) (unread 9 4)) (unread 9 0)

-- "only then is the level judged by 1 and the line by 2"
abbrev pub judged : Reading → Reading
judged found =
    on_level (level_of found.level) (λ (row : Row). cond (bad_line row found.line.bytes) (unread 2 0) found) (unread 1 0)

abbrev pub read_of : List ℕ → Reading
read_of file = cond (eqb (fields_of file).refusal 0) (judged (fields_of file)) (fields_of file)

-- the whole statement of `read`
abbrev pub ReadMet : List ℕ → Reading → Type 0
ReadMet file answer = answer ≡ read_of file

-- the bytes of a file that stand there
abbrev pub bytes_in : List ℕ → Part → List ℕ
bytes_in file part = take part.bytes (drop part.start file)
