-- What the lengths of a call are judged by: refusals 1 to 4 of document 01, "Refusal numbers", and F, the number of frames.
-- The level comes first: a call goes on with the level's row or is refused with 1.
use Rattle.std.specs.Prelude.{◌≡◌, Bool, cond, ◌||◌, not, List, ℕ, ◌*◌, ◌/◌, ◌%◌, ◌≤◌, eqb, ltb, length, take, drop, Option, Some, None}
use Rattle.table.specs.declared.Row.{Row}
use Rattle.levels.specs.Table.{Shared}

-- go on with a level's row, or answer that there is no such level
abbrev pub on_level {ℓ} : {A : Type ℓ} → Option Row → (Row → A) → A → A
on_level (Some row) go none = go row
on_level None go none = none

-- F is the line's length divided by the frame bytes
abbrev pub frames_of : Row → ℕ → ℕ
frames_of row line = line / row.bytes

-- 2: "line is not a whole number of frames, or over 64 frames"
abbrev pub bad_line : Row → ℕ → Bool
bad_line row line = not (eqb (line % row.bytes) 0) || ltb 64 (frames_of row line)

-- 3: "notes are not exactly F bytes"
abbrev pub bad_notes : Row → ℕ → ℕ → Bool
bad_notes row line notes = not (eqb notes (frames_of row line))

-- 4: "the buffer's length is not a multiple of 4, or eight times a quarter's bytes is less than F·n": a quarter has room for what F frames
-- may carry
abbrev pub bad_buffer : Row → ℕ → ℕ → Bool
bad_buffer row line buffer = not (eqb (buffer % 4) 0) || ltb (8 * (buffer / 4)) (frames_of row line * row.room)

-- the first of 2 and 3 that applies, or 0, by the lengths of line and notes in bytes
unfoldable pub frames_refusal : Row → ℕ → ℕ → ℕ
frames_refusal row line notes = cond (bad_line row line) 2 (cond (bad_notes row line notes) 3 0)

-- the first of 2, 3 and 4, by the lengths of line, notes and buffer
unfoldable pub size_refusal : Row → ℕ → ℕ → ℕ → ℕ
size_refusal row line notes buffer =
    cond (eqb (frames_refusal row line notes) 0) (cond (bad_buffer row line buffer) 4 0) (frames_refusal row line notes)

-- "one buffer in four equal quarters, quarter j for tributary j": j from 0 here
abbrev pub quarter_of : List ℕ → ℕ → List ℕ
quarter_of buffer j = take (length buffer / 4) (drop (j * (length buffer / 4)) buffer)

-- what accepted lengths say: the line is F whole frames, at most 64, and there are F notes
pub record Framed (row : Row) (line notes : ℕ) : Type 0 where
  pub frames : line ≡ frames_of row line * row.bytes
  pub few : frames_of row line ≤ 64
  pub noted : notes ≡ frames_of row line

-- and the buffer is four quarters with room for F frames each
pub record Accepted (row : Row) (line notes buffer : ℕ) : Type 0 where
  pub framed : Framed row line notes
  pub quarters : buffer ≡ 4 * (buffer / 4)
  pub room : frames_of row line * row.room ≤ 8 * (buffer / 4)

-- the same of one tributary: the line is as many whole frames as there are notes, at most 64, and its quarter has room for them
pub record Fits (row : Row) (line notes quarter : ℕ) : Type 0 where
  pub shared : Shared row
  pub whole : line ≡ notes * row.bytes
  pub few : notes ≤ 64
  pub room : notes * row.room ≤ 8 * quarter
