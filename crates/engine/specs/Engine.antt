-- The plain engine: multiplexing and demultiplexing as G.742 and G.751 have them, and with positive/zero/negative justification (document 02,
-- request 10), digit by digit. This file is the whole of its specification; besides it only the level table (table/specs/Table.antt) has to
-- be read. Its order is that of the Recommendations: digits, the frame, justification, what is sent, what is received; after them the calls,
-- with document 01's refusals and answers.
-- Everything is counted from 0: frames, the places of a frame, tributaries, digits. Tributary j is the Recommendations' j + 1.
use Rattle.std.specs.Prelude.{◌≡◌, Bool, cond, true, false, not, ◌&&◌, ◌||◌, List, [], ◌∷◌, ◌++◌, ℕ, zero, suc, ◌+◌, ◌*◌, ◌-◌, ◌/◌, ◌%◌, ◌^◌, min, eqb, ltb, leb, length, get_or, Option, Some, None, Result, Ok, Err}
use Rattle.table.specs.declared.Row.{Row}
use Rattle.table.specs.Table.{level_of}
use Rattle.engine.specs.declared.frame.Place.{Place}
use Rattle.engine.specs.declared.frame.Place.TheVariants.{Alignment, Service, Fixed, Control, Negative, Positive, Tributary}
use Rattle.engine.specs.declared.refusals.Refusal as reason
use Rattle.engine.specs.declared.refusals.Refusal.TheVariants.{Level, Line, Notes, Buffer, NoteBits, National}
use Rattle.engine.specs.declared.refusals.Refused.{Refused}
use Rattle.engine.specs.declared.Errors.{Errors}

-- ---- Digits

-- digit p of a slice: eight to a byte, the first one in the most significant bit; past the end there are zeros
unfoldable pub digit_at : List ℕ → ℕ → ℕ
digit_at bytes p = get_or bytes (p / 8) 0 / 2 ^ (7 - p % 8) % 2

-- the slice of n bytes whose digits are f 0, f 1, f 2 and so on
unfoldable pub packed : ℕ → (ℕ → ℕ) → List ℕ
packed zero f = []
packed (suc n) f =
    (128 * f 0 + 64 * f 1 + 32 * f 2 + 16 * f 3 + 8 * f 4 + 4 * f 5 + 2 * f 6 + f 7) ∷ packed n (λ (p : ℕ). f (8 + p))

-- the sum of f 0 to f (n - 1)
unfoldable pub sum_over : ℕ → (ℕ → ℕ) → ℕ
sum_over zero f = 0
sum_over (suc n) f = sum_over n f + f n

-- digit i of quarter j of the buffer
unfoldable pub quarter_digit : List ℕ → ℕ → ℕ → ℕ
quarter_digit buffer j i = cond (ltb i (8 * (length buffer / 4))) (digit_at buffer (8 * (j * (length buffer / 4)) + i)) 0

-- ---- The frame (G.742 table 1, G.751 tables 1 and 2; request 10)

-- place p of a line: its frame, and its place q in the frame
abbrev pub frame_of : Row → ℕ → ℕ
frame_of row p = p / row.digits

abbrev pub place_of : Row → ℕ → ℕ
place_of row p = p % row.digits

-- the digits of a frame are given to the tributaries in turn: place q is tributary q % 4's
abbrev pub whose : ℕ → ℕ
whose q = q % 4

-- what stands at place q of a frame
unfoldable pub place_in : Row → ℕ → Place
place_in row q =
    -- set I: the frame alignment signal; the digits for the remote alarm and for national use, which the note has; service places that no note
    -- has; digits from the tributaries
    cond (ltb q row.len) Alignment
    (cond (ltb q (row.len + row.alarms + row.nationals)) Service
    (cond (ltb q row.first) Fixed
    (cond (ltb q row.set) Tributary
    -- set II and those after it: first the justification control digits, one for each tributary
    (cond (ltb (q % row.set) 4) Control
    -- then, where another set follows, service places that no note has, where the level has any there; digits from the tributaries
    (cond (ltb (q + row.set) row.digits) (cond (ltb (q % row.set) row.middle) Fixed Tributary)
    -- and in the last set the negative places, where the level has them, and the positive places, one of each for each tributary; then digits
    -- from the tributaries
    (cond (ltb (q % row.set + 4) row.last) Negative (cond (ltb (q % row.set) row.last) Positive Tributary)))))))

-- digit q of the frame alignment signal
abbrev pub word_digit : Row → ℕ → ℕ
word_digit row q = row.word / 2 ^ (row.len - 1 - q) % 2

-- ---- Justification

-- bit k of the note of frame f. Bits 0 to 3: the vote for tributary k; bit 4: remote alarm; bits 5 to 7: national use
abbrev pub note_bit : List ℕ → ℕ → ℕ → ℕ
note_bit notes f k = get_or notes f 0 / 2 ^ k % 2

-- frame f votes 1 for tributary j
abbrev pub votes : List ℕ → ℕ → ℕ → Bool
votes notes f j = eqb (note_bit notes f j) 1

-- so did the frame before it; before frame 0 stands the earlier vote
abbrev pub voted_before : ℕ → List ℕ → ℕ → ℕ → Bool
voted_before earlier notes f j = votes (earlier ∷ notes) f j

-- the level has negative places: there is room for one digit more than n
abbrev pub negative_places : Row → Bool
negative_places row = ltb row.n row.room

-- "A frame acts on its own vote and the preceding frame's: both 1, the positive place is stuffed". A level without negative places acts on the
-- frame's own vote
abbrev pub stuffed_in : Row → ℕ → List ℕ → ℕ → ℕ → Bool
stuffed_in row earlier notes f j = votes notes f j && (not (negative_places row) || voted_before earlier notes f j)

-- "both 0, the negative place carries a digit too; otherwise only the positive carries"
abbrev pub negative_in : Row → ℕ → List ℕ → ℕ → ℕ → Bool
negative_in row earlier notes f j = negative_places row && not (votes notes f j || voted_before earlier notes f j)

-- a place carries a digit of its tributary: always, or never, or as its frame acts
abbrev pub carries_by : Place → Bool → Bool → Bool
carries_by Alignment stuffed negative = false
carries_by Service stuffed negative = false
carries_by Fixed stuffed negative = false
carries_by Control stuffed negative = false
carries_by Negative stuffed negative = negative
carries_by Positive stuffed negative = not stuffed
carries_by Tributary stuffed negative = true

-- place p of a line carries a digit
unfoldable pub carries_at : Row → ℕ → List ℕ → ℕ → Bool
carries_at row earlier notes p =
    carries_by (place_in row (place_of row p)) (stuffed_in row earlier notes (frame_of row p) (whose (place_of row p)))
    (negative_in row earlier notes (frame_of row p) (whose (place_of row p)))

-- and it is a digit of tributary j
unfoldable pub carries_for : Row → ℕ → List ℕ → ℕ → ℕ → Bool
carries_for row earlier notes j p = cond (eqb (whose (place_of row p)) j) (carries_at row earlier notes p) false

-- how many digits of tributary j the first p places carry: the number of the digit that place p carries, and in the end the count. A negative
-- place stands before the positive one and has the earlier digit
unfoldable pub count_to : Row → ℕ → List ℕ → ℕ → ℕ → ℕ
count_to row earlier notes j p = sum_over p (λ (k : ℕ). cond (carries_for row earlier notes j k) 1 0)

abbrev pub counts_to : Row → ℕ → List ℕ → ℕ → List ℕ
counts_to row earlier notes p =
    count_to row earlier notes 0 p ∷ count_to row earlier notes 1 p ∷ count_to row earlier notes 2 p ∷ count_to row earlier notes 3 p ∷ []

-- ---- What is sent

-- at place q of frame f, which carries a digit or not, where next is the next digit of the place's tributary. Control digits are the vote, as
-- often as they are sent; a negative or positive place that carries nothing is sent as 1, and so are the service places that no note has
abbrev pub sent_by : Row → List ℕ → ℕ → ℕ → Bool → ℕ → Place → ℕ
sent_by row notes f q carries next Alignment = word_digit row q
sent_by row notes f q carries next Service = note_bit notes f (4 + (q - row.len))
sent_by row notes f q carries next Fixed = 1
sent_by row notes f q carries next Control = note_bit notes f (whose q)
sent_by row notes f q carries next Negative = cond carries next 1
sent_by row notes f q carries next Positive = cond carries next 1
sent_by row notes f q carries next Tributary = next

-- at place p of the line
unfoldable pub sent_at : Row → ℕ → List ℕ → List ℕ → ℕ → ℕ
sent_at row earlier notes buffer p =
    sent_by row notes (frame_of row p) (place_of row p) (carries_at row earlier notes p)
    (quarter_digit buffer (whose (place_of row p)) (count_to row earlier notes (whose (place_of row p)) p))
    (place_in row (place_of row p))

-- ---- What is received

-- place q of frame f of a line
abbrev pub received : Row → List ℕ → ℕ → ℕ → ℕ
received row line f q = digit_at line (f * row.digits + q)

-- 1 where place q of a frame is a digit of the frame alignment signal and the digit d there is a wrong one
abbrev pub wrong_by : Row → ℕ → ℕ → Place → ℕ
wrong_by row q d Alignment = cond (eqb d (word_digit row q)) 0 1
wrong_by row q d Service = 0
wrong_by row q d Fixed = 0
wrong_by row q d Control = 0
wrong_by row q d Negative = 0
wrong_by row q d Positive = 0
wrong_by row q d Tributary = 0

-- how many digits of the frame alignment signal of frame f are wrong, among its first n places
abbrev pub wrong_to : Row → List ℕ → ℕ → ℕ → ℕ
wrong_to row line f n = sum_over n (λ (q : ℕ). wrong_by row q (received row line f q) (place_in row q))

-- 1 where place q of a frame is a control digit of tributary j and the digit d there is v
abbrev pub votes_by : ℕ → ℕ → ℕ → ℕ → Place → ℕ
votes_by j v q d Alignment = 0
votes_by j v q d Service = 0
votes_by j v q d Fixed = 0
votes_by j v q d Control = cond (eqb (whose q) j) (cond (eqb d v) 1 0) 0
votes_by j v q d Negative = 0
votes_by j v q d Positive = 0
votes_by j v q d Tributary = 0

-- how many of tributary j's control digits in frame f are v, among the frame's first n places
abbrev pub votes_to : Row → List ℕ → ℕ → ℕ → ℕ → ℕ → ℕ
votes_to row line f j v n = sum_over n (λ (q : ℕ). votes_by j v q (received row line f q) (place_in row q))

-- majority decision: frame f votes 1 for tributary j where more of its control digits are 1 than 0
abbrev pub majority : Row → List ℕ → ℕ → ℕ → ℕ
majority row line f j = cond (ltb (votes_to row line f j 0 row.digits) (votes_to row line f j 1 row.digits)) 1 0

-- and the digits of the minority dissent
abbrev pub dissent_in : Row → List ℕ → ℕ → ℕ → ℕ
dissent_in row line f j = min (votes_to row line f j 0 row.digits) (votes_to row line f j 1 row.digits)

-- the remote alarm digit of frame f as it came; 0 where the level has none
abbrev pub alarm_in : Row → List ℕ → ℕ → ℕ
alarm_in row line f = cond (ltb 0 row.alarms) (received row line f row.alarm) 0

-- the k-th digit for national use of frame f as it came; 0 where the level has none such
abbrev pub national_in : Row → List ℕ → ℕ → ℕ → ℕ
national_in row line f k = cond (ltb k row.nationals) (received row line f (row.national + k)) 0

-- the note of frame f: the four decisions, the remote alarm digit, the digits for national use. Service places that no note has are not looked at
unfoldable pub note_in : Row → List ℕ → ℕ → ℕ
note_in row line f =
    majority row line f 0
    + 2 * majority row line f 1
    + 4 * majority row line f 2
    + 8 * majority row line f 3
    + 16 * alarm_in row line f
    + 32 * national_in row line f 0
    + 64 * national_in row line f 1
    + 128 * national_in row line f 2

-- the notes of F frames
unfoldable pub notes_to : Row → List ℕ → ℕ → List ℕ
notes_to row line zero = []
notes_to row line (suc F) = notes_to row line F ++ (note_in row line F ∷ [])

-- wrong digits of the frame alignment signal over F frames; dissenting digits of tributary j over F frames, and of the four tributaries
abbrev pub alignment_to : Row → List ℕ → ℕ → ℕ
alignment_to row line F = sum_over F (λ (f : ℕ). wrong_to row line f row.digits)

abbrev pub dissent_to : Row → List ℕ → ℕ → ℕ → ℕ
dissent_to row line j F = sum_over F (λ (f : ℕ). dissent_in row line f j)

abbrev pub dissents_to : Row → List ℕ → ℕ → List ℕ
dissents_to row line F = dissent_to row line 0 F ∷ dissent_to row line 1 F ∷ dissent_to row line 2 F ∷ dissent_to row line 3 F ∷ []

-- the digits of tributary j: those of the places that carry them, in order. Here of the line's first p places
unfoldable pub taken_to : Row → ℕ → List ℕ → List ℕ → ℕ → ℕ → List ℕ
taken_to row earlier notes line j zero = []
taken_to row earlier notes line j (suc p) = taken_to row earlier notes line j p ++ cond (carries_for row earlier notes j p) (digit_at line p ∷ []) []

-- digit k of the buffer, where a quarter has so many digits: quarter j holds tributary j's digits from its start on, and after them zeros
unfoldable pub handed_at : Row → ℕ → List ℕ → List ℕ → ℕ → ℕ → ℕ
handed_at row earlier notes line quarter k = get_or (taken_to row earlier notes line (k / quarter) (8 * length line)) (k % quarter) 0

-- ---- The calls: which are refused (document 01, "Refusal numbers")

-- 1: "level is not 2, 3 or 4", nor 12 or 14: a call goes on with the level's row, or is refused
abbrev pub on_level {ℓ} : {A : Type ℓ} → Option Row → (Row → A) → A → A
on_level (Some row) go none = go row
on_level None go none = none

-- 2: "line is not a whole number of frames, or over 64 frames"
abbrev pub bad_line : Row → ℕ → Bool
bad_line row line = not (eqb (line % row.bytes) 0) || ltb 64 (line / row.bytes)

-- 3: "notes are not exactly F bytes"
abbrev pub bad_notes : Row → ℕ → ℕ → Bool
bad_notes row line notes = not (eqb notes (line / row.bytes))

-- 4: "the buffer's length is not a multiple of 4, or eight times a quarter's bytes is less than F·n"; request 10: "room by 257 or 538"
abbrev pub bad_buffer : Row → ℕ → ℕ → Bool
bad_buffer row line buffer = not (eqb (buffer % 4) 0) || ltb (8 * (buffer / 4)) (line / row.bytes * row.room)

-- 5: the earlier vote is "over 15"; "not looked at for levels 2 to 4"
abbrev pub bad_earlier : Row → ℕ → Bool
bad_earlier row earlier = negative_places row && ltb 15 earlier

-- the first frame whose note meets a test, or the number of notes where there is none
unfoldable pub first_with : (ℕ → Bool) → List ℕ → ℕ
first_with test [] = 0
first_with test (note ∷ notes) = cond (test note) 0 (suc (first_with test notes))

-- 5: a note has a bit set that the level has not: "bit 6 or 7" at levels 2 and 3, any but the votes at 12 and 14
abbrev pub too_much : Row → ℕ → Bool
too_much row note = leb (2 ^ (4 + row.alarms + row.nationals)) note

abbrev pub first_faulty : Row → List ℕ → ℕ
first_faulty row notes = first_with (too_much row) notes

-- 10: "a note whose national bits for that level are not all 1": of the bits from 5 on, as many as the level has digits for national use, fewer
-- are 1. A level without such digits refuses no note
unfoldable pub national_ones : Row → ℕ → ℕ
national_ones row note = sum_over row.nationals (λ (k : ℕ). note / 2 ^ (5 + k) % 2)

abbrev pub too_few : Row → ℕ → Bool
too_few row note = ltb (national_ones row note) row.nationals

abbrev pub first_lacking : Row → List ℕ → ℕ
first_lacking row notes = first_with (too_few row) notes

-- the refusal, or 0, and the frame that refusal 5 or 10 names, or 0
pub record Refusal : Type 0 where
  pub refusal : ℕ
  pub frame : ℕ

abbrev pub refusal_with : ℕ → ℕ → Refusal
refusal_with refusal frame = record { refusal = refusal; frame = frame }

-- 2, 3, 4 and 5 in this order, the earlier vote "naming frame 0, before the notes": the first that applies, and the frame that 5 names; 0 where
-- none does. Line and buffer in bytes
unfoldable pub refusal_on : Row → ℕ → ℕ → List ℕ → ℕ → Refusal
refusal_on row earlier line notes buffer =
    cond (bad_line row line) (refusal_with 2 0)
    (cond (bad_notes row line (length notes)) (refusal_with 3 0)
    (cond (bad_buffer row line buffer) (refusal_with 4 0)
    (cond (bad_earlier row earlier) (refusal_with 5 0)
    (cond (ltb (first_faulty row notes) (length notes)) (refusal_with 5 (first_faulty row notes)) (refusal_with 0 0)))))

-- multiplexing, after these: 10, and the frame that it names
unfoldable pub sending_on : Row → ℕ → ℕ → List ℕ → ℕ → Refusal
sending_on row earlier line notes buffer =
    cond (eqb (refusal_on row earlier line notes buffer).refusal 0)
    (cond (ltb (first_lacking row notes) (length notes)) (refusal_with 10 (first_lacking row notes)) (refusal_with 0 0))
    (refusal_on row earlier line notes buffer)

-- the number of each refusal that the code knows, and the number that a call answers C with: 0 is accepted
abbrev pub number_of : reason.Refusal → ℕ
number_of Level = 1
number_of Line = 2
number_of Notes = 3
number_of Buffer = 4
number_of NoteBits = 5
number_of National = 10

abbrev pub refusal_in : {A : Type 0} → Result A reason.Refusal → ℕ
refusal_in (Ok _) = 0
refusal_in (Err refusal) = number_of refusal

-- these in what the code answers
abbrev pub fault_in : {A : Type 0} → Result A Refused → Refusal
fault_in (Ok _) = refusal_with 0 0
fault_in (Err refused) = refusal_with (number_of refused.refusal) refused.frame

-- reading the notes: 2 and 3
unfoldable pub reading_on : Row → ℕ → ℕ → ℕ
reading_on row line notes = cond (bad_line row line) 2 (cond (bad_notes row line notes) 3 0)

-- ---- The calls: what they answer and leave. Under a refusal all counts are 0 and nothing lent is written

-- what multiplexing and extraction answer: the refusal, the frame that refusal 5 or 10 names, the digits of each tributary
pub record Answered : Type 0 where
  pub refusal : ℕ
  pub frame : ℕ
  pub counts : List ℕ

-- what reading the notes answers: the refusal, alignment digits that differ from the word and dissenting digits of each tributary, over all frames
pub record NotesRead : Type 0 where
  pub refusal : ℕ
  pub alignment : ℕ
  pub dissent : List ℕ

abbrev pub none : List ℕ
none = 0 ∷ 0 ∷ 0 ∷ 0 ∷ []

abbrev pub refused_with : ℕ → Answered
refused_with refusal = record { refusal = refusal; frame = 0; counts = none }

-- the numbers of what the code answers
abbrev pub answered_in : Result (List ℕ) Refused → Answered
answered_in (Ok counts) = record { refusal = 0; frame = 0; counts = counts }
answered_in (Err refused) = record { refusal = number_of refused.refusal; frame = refused.frame; counts = none }

abbrev pub notes_read_in : Result Errors reason.Refusal → NotesRead
notes_read_in (Ok errors) = record { refusal = 0; alignment = errors.alignment; dissent = errors.dissent }
notes_read_in (Err refusal) = record { refusal = number_of refusal; alignment = 0; dissent = none }

-- multiplexing and extraction answer alike: how many digits of each tributary the line carries, by the notes and the earlier vote: n for each
-- frame, less the stuffed, plus the negative. A line of so many bytes
abbrev pub answer_by : Row → ℕ → ℕ → List ℕ → Refusal → Answered
answer_by row earlier line notes v =
    cond (eqb v.refusal 0)
    (record { refusal = 0; frame = 0; counts = counts_to row earlier notes (8 * line) })
    (record { refusal = v.refusal; frame = v.frame; counts = none })

-- multiplexing: the answer, and the line that is left
abbrev pub sent_line : Row → ℕ → List ℕ → List ℕ → List ℕ → Refusal → List ℕ
sent_line row earlier line notes buffer v = cond (eqb v.refusal 0) (packed (length line) (sent_at row earlier notes buffer)) line

abbrev pub multiplexed : ℕ → ℕ → List ℕ → List ℕ → List ℕ → Answered
multiplexed level earlier line notes buffer =
    on_level (level_of level) (λ (row : Row). answer_by row earlier (length line) notes (sending_on row earlier (length line) notes (length buffer)))
    (refused_with 1)

abbrev pub line_after : ℕ → ℕ → List ℕ → List ℕ → List ℕ → List ℕ
line_after level earlier line notes buffer =
    on_level (level_of level) (λ (row : Row). sent_line row earlier line notes buffer (sending_on row earlier (length line) notes (length buffer))) line

pub record MultiplexMet (level earlier : ℕ) (line notes buffer : List ℕ) (answer : Answered) (left : List ℕ) : Type 0 where
  pub answered : answer ≡ multiplexed level earlier line notes buffer
  pub written : left ≡ line_after level earlier line notes buffer

-- reading the notes: the answer, and the notes that are left
abbrev pub read_answer : Row → List ℕ → ℕ → ℕ → NotesRead
read_answer row line notes refusal =
    cond (eqb refusal 0)
    (record { refusal = 0; alignment = alignment_to row line notes; dissent = dissents_to row line notes })
    (record { refusal = refusal; alignment = 0; dissent = none })

abbrev pub read_left : Row → List ℕ → List ℕ → ℕ → List ℕ
read_left row line notes refusal = cond (eqb refusal 0) (notes_to row line (length notes)) notes

abbrev pub notes_read : ℕ → List ℕ → List ℕ → NotesRead
notes_read level line notes =
    on_level (level_of level) (λ (row : Row). read_answer row line (length notes) (reading_on row (length line) (length notes)))
    (record { refusal = 1; alignment = 0; dissent = none })

abbrev pub notes_after : ℕ → List ℕ → List ℕ → List ℕ
notes_after level line notes =
    on_level (level_of level) (λ (row : Row). read_left row line notes (reading_on row (length line) (length notes))) notes

pub record ReadNotesMet (level : ℕ) (line notes : List ℕ) (answer : NotesRead) (left : List ℕ) : Type 0 where
  pub answered : answer ≡ notes_read level line notes
  pub written : left ≡ notes_after level line notes

-- extraction by given notes: the answer, and the buffer that is left. No control digit is looked at
abbrev pub taken_buffer : Row → ℕ → List ℕ → List ℕ → List ℕ → Refusal → List ℕ
taken_buffer row earlier line notes buffer v =
    cond (eqb v.refusal 0) (packed (length buffer) (handed_at row earlier notes line (8 * (length buffer / 4)))) buffer

abbrev pub extracted : ℕ → ℕ → List ℕ → List ℕ → List ℕ → Answered
extracted level earlier line notes buffer =
    on_level (level_of level) (λ (row : Row). answer_by row earlier (length line) notes (refusal_on row earlier (length line) notes (length buffer)))
    (refused_with 1)

abbrev pub buffer_after : ℕ → ℕ → List ℕ → List ℕ → List ℕ → List ℕ
buffer_after level earlier line notes buffer =
    on_level (level_of level) (λ (row : Row). taken_buffer row earlier line notes buffer (refusal_on row earlier (length line) notes (length buffer))) buffer

pub record ExtractMet (level earlier : ℕ) (line notes buffer : List ℕ) (answer : Answered) (left : List ℕ) : Type 0 where
  pub answered : answer ≡ extracted level earlier line notes buffer
  pub written : left ≡ buffer_after level earlier line notes buffer
