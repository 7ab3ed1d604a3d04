-- The C face: how answers and states pass as numbers in fixed arrays, and the whole statement of each call. The definitions of the calls
-- behind the face say what the numbers are.
use Rattle.std.specs.Prelude.{◌≡◌, cond, List, [], ◌∷◌, ℕ, eqb, length, get_or}
use Rattle.digits.specs.Digits.{is_yes}
use Rattle.levels.specs.Faults.{Counted}
use Rattle.reading.specs.Reading.{Noted}
use Rattle.receiver.specs.declared.Fed.{Fed}
use Rattle.captures.specs.Captures.{Written}
use Rattle.captures.specs.declared.Reading.{Reading}
use Rattle.multiframe.specs.Calls.{Built}
use Rattle.levels.specs.Faults.{answered, send_answered}
use Rattle.multiplex.specs.Multiplex.{line_after}
use Rattle.reading.specs.Reading.{noted, notes_after}
use Rattle.extraction.specs.Extract.{buffer_after}
use Rattle.receiver.specs.Feed.{fresh_of}
use Rattle.receiver.specs.Numbers.{state_from, state_numbers, fed_by, fed_answer}
use Rattle.line_reader.specs.Step.{step_at, digit_or_end}
use Rattle.captures.specs.Captures.{written_of, left_of, read_of}
use Rattle.multiframe.specs.Multiframe.{multiframe_of}
use Rattle.multiframe.specs.Calls.{built_of, ApartMet}

-- answer: four digit counts, named frame
abbrev pub counted_answer : Counted → List ℕ
counted_answer m = get_or m.counts 0 0 ∷ get_or m.counts 1 0 ∷ get_or m.counts 2 0 ∷ get_or m.counts 3 0 ∷ m.frame ∷ []

-- answer: alignment digits that differ, dissenting digits of tributaries 1 to 4
abbrev pub noted_answer : Noted → List ℕ
noted_answer n = n.alignment ∷ get_or n.dissent 0 0 ∷ get_or n.dissent 1 0 ∷ get_or n.dissent 2 0 ∷ get_or n.dissent 3 0 ∷ []

-- a refused feed writes no state and no frame
abbrev pub fed_state : Fed → List ℕ → List ℕ
fed_state f state = cond (eqb f.refusal 0) (state_numbers f.state) state

abbrev pub fed_frame : Fed → List ℕ → List ℕ
fed_frame f frame = cond (eqb f.refusal 0) f.state.frame frame

-- answer: bytes of the file, named byte
abbrev pub written_answer : Written → List ℕ
written_answer w = w.bytes ∷ w.byte ∷ []

-- answer: level, first byte of the line, its bytes, 1 if there is a label, first byte of the label, its bytes, named byte
abbrev pub read_answer : Reading → List ℕ
read_answer r =
    r.level ∷ r.line.start ∷ r.line.bytes ∷ cond r.labelled 1 0 ∷ r.label.start ∷ r.label.bytes ∷ r.byte ∷ []

-- answer: named channel
abbrev pub built_answer : Built → List ℕ
built_answer b = b.channel ∷ []

-- ---- the whole statement of each call: what it is given, the number that it returns, and what it leaves in everything lent for writing

-- spritbobbin_multiplex returns the refusal number, and leaves the line and the answer
abbrev pub MultiplexMet : ℕ → ℕ → List ℕ → List ℕ → List ℕ → ℕ → List ℕ → List ℕ → Type 0
MultiplexMet level earlier line notes buffer returned line_left answer_left =
    let m = send_answered level earlier (length line) notes (length buffer) in
    (returned ≡ m.refusal) × (line_left ≡ line_after level earlier line notes buffer) × (answer_left ≡ counted_answer m)

-- spritbobbin_read_notes returns the refusal number, and leaves the notes and the answer
abbrev pub ReadNotesMet : ℕ → List ℕ → List ℕ → ℕ → List ℕ → List ℕ → Type 0
ReadNotesMet level line notes returned notes_left answer_left =
    let n = noted level line (length notes) in
    (returned ≡ n.refusal) × (notes_left ≡ notes_after level line notes) × (answer_left ≡ noted_answer n)

-- spritbobbin_extract returns the refusal number, and leaves the buffer and the answer
abbrev pub ExtractMet : ℕ → ℕ → List ℕ → List ℕ → List ℕ → ℕ → List ℕ → List ℕ → Type 0
ExtractMet level earlier line notes buffer returned buffer_left answer_left =
    let m = answered level earlier (length line) notes (length buffer) in
    (returned ≡ m.refusal) × (buffer_left ≡ buffer_after level earlier line notes buffer) × (answer_left ≡ counted_answer m)

-- spritbobbin_receiver_fresh returns the refusal number, and leaves the state's numbers and its frame
abbrev pub FreshMet : ℕ → ℕ → List ℕ → List ℕ → Type 0
FreshMet level returned state_left frame_left =
    (returned ≡ (fresh_of level).refusal) × (state_left ≡ state_numbers (fresh_of level).state) × (frame_left ≡ (fresh_of level).state.frame)

-- spritbobbin_receiver_feed returns the refusal number, and leaves the state's numbers, its frame and the answer
abbrev pub FeedMet : List ℕ → List ℕ → List ℕ → ℕ → ℕ → ℕ → List ℕ → List ℕ → List ℕ → Type 0
FeedMet state frame piece first count returned state_left frame_left answer_left =
    let f = fed_by (state_from state frame) (get_or state 7 0) (get_or state 8 0) piece first count in
    (returned ≡ f.refusal) × (state_left ≡ fed_state f state) × (frame_left ≡ fed_frame f frame) × (answer_left ≡ fed_answer f)

-- spritbobbin_line_digit returns the digit, or 2 where the line has ended; nothing is lent for writing
abbrev pub LineDigitMet : List ℕ → ℕ → ℕ → Type 0
LineDigitMet line place returned = returned ≡ digit_or_end (step_at line place)

-- spritbobbin_capture_write returns the refusal number, and leaves the file and the answer
abbrev pub CaptureWriteMet : ℕ → List ℕ → List ℕ → ℕ → List ℕ → ℕ → List ℕ → List ℕ → Type 0
CaptureWriteMet level line label labelled file returned file_left answer_left =
    let w = written_of level line label (is_yes labelled) (length file) in
    (returned ≡ w.refusal) × (file_left ≡ left_of level line label (is_yes labelled) file) × (answer_left ≡ written_answer w)

-- spritbobbin_capture_read returns the refusal number, and leaves the answer
abbrev pub CaptureReadMet : List ℕ → ℕ → List ℕ → Type 0
CaptureReadMet file returned answer_left = (returned ≡ (read_of file).refusal) × (answer_left ≡ read_answer (read_of file))

-- spritbobbin_multiframe_build returns the refusal number, and leaves the multiframe and the answer
abbrev pub MultiframeBuildMet : List ℕ → List ℕ → List ℕ → List ℕ → ℕ → List ℕ → List ℕ → Type 0
MultiframeBuildMet multiframe channels signalling spare returned multiframe_left answer_left =
    let b = built_of (length multiframe) (length channels) signalling (length spare) in
    (returned ≡ b.refusal) × (multiframe_left ≡ cond (eqb b.refusal 0) (multiframe_of channels signalling spare) multiframe)
    × (answer_left ≡ built_answer b)

-- spritbobbin_multiframe_apart returns the refusal number, and leaves channels, signalling and spare digits: the call behind it
abbrev pub MultiframeApartMet : List ℕ → List ℕ → List ℕ → List ℕ → ℕ → List ℕ → List ℕ → List ℕ → Type 0
MultiframeApartMet multiframe channels signalling spare returned channels_left signalling_left spare_left =
    ApartMet multiframe channels signalling spare returned channels_left signalling_left spare_left
