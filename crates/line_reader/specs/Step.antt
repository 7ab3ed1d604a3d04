-- What a step over a line gives. Document 01: "A step gives the next digit and moves on by one, or says that the line has
-- ended and moves nothing, as it does at any place past the last digit (eight times the line's bytes or more) and for any
-- line over 65,536 bytes." The digits of a line are those of crate digits.
use Rattle.std.specs.Prelude.{◌≡◌, Bool, cond, true, false, ◌||◌, List, ℕ, ◌+◌, ◌*◌, leb, ltb, length, get_or}
use Rattle.std.specs.Borrow.{Bor}
use Rattle.digits.specs.Digits.{digits_of}
use Rattle.line_reader.specs.declared.LineReader.{LineReader}
use Rattle.line_reader.specs.declared.Step.{Step}

-- "at any place past the last digit (eight times the line's bytes or more) and for any line over 65,536 bytes"
unfoldable pub has_ended : List ℕ → ℕ → Bool
has_ended line place = leb (8 * length line) place || ltb 65536 (length line)

-- "says that the line has ended and moves nothing"
abbrev pub ending : ℕ → Step
ending place = record { ended = true; digit = 0; place = place }

-- "gives the next digit and moves on by one"
abbrev pub giving : List ℕ → ℕ → Step
giving line place = record { ended = false; digit = get_or (digits_of line) place 0; place = place + 1 }

unfoldable pub step_at : List ℕ → ℕ → Step
step_at line place = cond (has_ended line place) (ending place) (giving line place)

-- ---- the reader: the lent line, and its place

abbrev pub reader_at : Bor (List ℕ) → ℕ → LineReader
reader_at line place = record { line = line; place = place }

-- the step that a reader gives, and the reader after it
abbrev pub next_of : LineReader → Step
next_of r = step_at r.line.now r.place

abbrev pub moved_on : LineReader → LineReader
moved_on r = reader_at r.line (next_of r).place

-- ---- a step as a number: the digit, 0 or 1, and 2 where the line has ended

abbrev pub digit_or_end : Step → ℕ
digit_or_end s = cond s.ended 2 s.digit

-- ---- the whole statement of each function: what it is given, what it answers, and the reader that it leaves

-- step_at: the step from a place of a line
abbrev pub StepMet : List ℕ → ℕ → Step → Type 0
StepMet line place step = step ≡ step_at line place

-- new: a reader that holds the very line that was lent
abbrev pub NewMet : Bor (List ℕ) → ℕ → LineReader → Type 0
NewMet line place reader = reader ≡ reader_at line place

-- next: the step, and the reader as it is left
abbrev pub NextMet : LineReader → Step → LineReader → Type 0
NextMet reader step left = (step ≡ next_of reader) × (left ≡ moved_on reader)

-- line_digit: the digit, or 2 where the line has ended
abbrev pub DigitMet : List ℕ → ℕ → ℕ → Type 0
DigitMet line place digit = digit ≡ digit_or_end (step_at line place)
