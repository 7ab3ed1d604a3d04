-- The refusals of each call, in the order of the documents and in their words. A row that asks for the level's numbers applies only where there is such a level.
use Rattle.std.specs.Prelude.{Bool, true, false, not, ◌||◌, ◌&&◌, List, [], ◌∷◌, ◌++◌, ℕ, ◌+◌, ◌*◌, eqb, ltb, leb, length}
use Rattle.table.specs.declared.Row.{Row}
use Rattle.table.specs.Table.{level_of}
use Rattle.levels.specs.Sizes.{on_level, bad_line, bad_notes, bad_buffer}
use Rattle.levels.specs.Faults.{overfull, unset, bad_earlier}
use Rattle.swap.specs.Swap.{bad_tributary, bad_room}
use Rattle.captures.specs.Captures.{file_of, fields_of, read_of}
use Rattle.receiver.specs.declared.State.{State}
use Rattle.pieces.specs.Alarm.{uncounted}
use Rattle.receiver.specs.Feed.{core_of, invalid}
use Rattle.records.specs.declared.record.Record.{Record}
use Rattle.records.specs.Record.{state_from}
use Rattle.rack.specs.Rack.{at}
use Rattle.multiframe.specs.Calls.{lengths_right, ones_of}
use Rattle.finder_2048.specs.declared.State as finder
use Rattle.finder_2048.specs.Feed as finding
use Rattle.refusals.specs.First.{Given, given}

-- 1: "level is not 2, 3 or 4", nor 12 nor 14
abbrev pub no_level : ℕ → Bool
no_level level = on_level (level_of level) (λ (row : Row). false) true

-- at a level, by its row
abbrev pub on_row : ℕ → (Row → Bool) → Bool
on_row level test = on_level (level_of level) test false

-- one of these notes is so
unfoldable pub any_of : (ℕ → Bool) → List ℕ → Bool
any_of test [] = false
any_of test (note ∷ notes) = test note || any_of test notes

-- ---- lines

-- "Order for the two multiplex calls: 1, 2, 3, 4, 5"; 5: the earlier vote "before the notes"; "with 10, after 5"
abbrev pub extract_table : ℕ → ℕ → ℕ → List ℕ → ℕ → List Given
extract_table level earlier line notes buffer =
    given 1 (no_level level)
    ∷ given 2 (on_row level (λ (row : Row). bad_line row line))
    ∷ given 3 (on_row level (λ (row : Row). bad_notes row line (length notes)))
    ∷ given 4 (on_row level (λ (row : Row). bad_buffer row line buffer))
    ∷ given 5 (on_row level (λ (row : Row). bad_earlier row earlier))
    ∷ given 5 (on_row level (λ (row : Row). any_of (overfull row) notes))
    ∷ []

abbrev pub multiplex_table : ℕ → ℕ → ℕ → List ℕ → ℕ → List Given
multiplex_table level earlier line notes buffer =
    extract_table level earlier line notes buffer ++ (given 10 (on_row level (λ (row : Row). any_of (unset row) notes)) ∷ [])

-- reading the notes: 1, 2, 3
abbrev pub read_notes_table : ℕ → ℕ → ℕ → List Given
read_notes_table level line notes =
    given 1 (no_level level)
    ∷ given 2 (on_row level (λ (row : Row). bad_line row line))
    ∷ given 3 (on_row level (λ (row : Row). bad_notes row line notes))
    ∷ []

-- swapping: "Refused in the order 1, 12 .., 2, 3, 4 .., 5"
abbrev pub swap_table : ℕ → ℕ → ℕ → ℕ → ℕ → ℕ → List Given
swap_table level earlier tributary line notes buffer =
    given 1 (no_level level)
    ∷ given 12 (bad_tributary tributary)
    ∷ given 2 (on_row level (λ (row : Row). bad_line row line))
    ∷ given 3 (on_row level (λ (row : Row). bad_notes row line notes))
    ∷ given 4 (on_row level (λ (row : Row). bad_room row line buffer))
    ∷ given 5 (on_row level (λ (row : Row). bad_earlier row earlier))
    ∷ []

-- repairing: 1, 2, and "the earlier vote (over 15: 5)"
abbrev pub repair_table : ℕ → ℕ → ℕ → List Given
repair_table level earlier line =
    given 1 (no_level level)
    ∷ given 2 (on_row level (λ (row : Row). bad_line row line))
    ∷ given 5 (on_row level (λ (row : Row). bad_earlier row earlier))
    ∷ []

-- ---- captures

-- "The writer refuses in the order 1, 2, 9 (a label over 32 bytes, naming byte 0), 4 (a buffer smaller than the file)"
abbrev pub write_table : ℕ → List ℕ → List ℕ → Bool → ℕ → List Given
write_table level line label labelled room =
    given 1 (no_level level)
    ∷ given 2 (on_row level (λ (row : Row). bad_line row (length line)))
    ∷ given 9 (labelled && ltb 32 (length label))
    ∷ given 4 (ltb room (length (file_of level line label labelled)))
    ∷ []

-- "The reader refuses with 9 any other run of tags and lengths ..; only then is the level judged by 1 and the line by 2"
abbrev pub read_table : List ℕ → List Given
read_table file =
    given 9 (not (eqb (fields_of file).refusal 0))
    ∷ given 1 (no_level (fields_of file).level)
    ∷ given 2 (on_row (fields_of file).level (λ (row : Row). bad_line row (fields_of file).line.bytes))
    ∷ []

-- "A bad capture is answered as by the reader, the first file first; then unequal level with 1, unequal length with 2"
abbrev pub compare_table : List ℕ → List ℕ → List Given
compare_table one other =
    given (read_of one).refusal (not (eqb (read_of one).refusal 0))
    ∷ given (read_of other).refusal (not (eqb (read_of other).refusal 0))
    ∷ given 1 (not (eqb (read_of one).level (read_of other).level))
    ∷ given 2 (not (eqb (read_of one).line.bytes (read_of other).line.bytes))
    ∷ []

-- ---- streams

-- "Making a fresh state can give only 0 or 1"
abbrev pub fresh_table : ℕ → List Given
fresh_table level = given 1 (no_level level) ∷ []

-- 6: "receiver state is not valid: level wrong, .." or its stretch is
abbrev pub bad_state : State → Bool
bad_state s = no_level s.level || on_row s.level (λ (row : Row). invalid row (core_of s) || uncounted row s.stretch)

-- 2: "for a piece: slice over 65,536 bytes"; 7: "first digit plus number of digits is more than the slice holds"
abbrev pub piece_table : Bool → ℕ → ℕ → ℕ → List Given
piece_table bad bytes first count =
    given 6 bad
    ∷ given 2 (ltb 65536 bytes)
    ∷ given 7 (ltb (8 * bytes) (first + count))
    ∷ []

-- "For a piece: 6, 2, 7."
abbrev pub feed_table : State → List ℕ → ℕ → ℕ → List Given
feed_table s slice first count = piece_table (bad_state s) (length slice) first count

-- "A number beyond the list is refused with 8 first; a list of more than 64 with 2 next"
abbrev pub list_table : ℕ → ℕ → List Given
list_table records line =
    given 8 (leb records line)
    ∷ given 2 (ltb 64 records)
    ∷ []

-- "then a feed refuses as a piece does": a record's yes or no that is neither 0 nor 1 is a bad state too
abbrev pub bad_record : Record → Bool
bad_record r = (ltb 1 r.few || ltb 1 r.alarm) || bad_state (state_from r)

abbrev pub rack_feed_table : List Record → ℕ → List ℕ → ℕ → ℕ → List Given
rack_feed_table records line piece first count =
    list_table (length records) line ++ piece_table (bad_record (at records line)) (length piece) first count

-- "Reset takes a level and refuses in the order 8, 2, 1; the count only with 2"
abbrev pub rack_reset_table : List Record → ℕ → ℕ → List Given
rack_reset_table records line level = list_table (length records) line ++ (given 1 (no_level level) ∷ [])

abbrev pub rack_count_table : List Record → List Given
rack_count_table records = given 2 (ltb 64 (length records)) ∷ []

-- ---- 2048 kbit/s

-- "other lengths are refused with 2. Building then refuses signalling 0000 for channels 1 to 15 with 11"
abbrev pub apart_table : ℕ → ℕ → ℕ → ℕ → List Given
apart_table multiframe channels signalling spare = given 2 (not (lengths_right multiframe channels signalling spare)) ∷ []

abbrev pub silent : List ℕ → ℕ → Bool
silent signalling channel = eqb (ones_of signalling channel) 0

abbrev pub build_table : ℕ → ℕ → List ℕ → ℕ → List Given
build_table multiframe channels signalling spare =
    apart_table multiframe channels (length signalling) spare
    ++ (given 11 (any_of (silent signalling) (1 ∷ 2 ∷ 3 ∷ 4 ∷ 5 ∷ 6 ∷ 7 ∷ 8 ∷ 9 ∷ 10 ∷ 11 ∷ 12 ∷ 13 ∷ 14 ∷ 15 ∷ [])) ∷ [])

-- a piece of 2048 kbit/s is refused as one of the receiver is
abbrev pub finder_table : finder.State → List ℕ → ℕ → ℕ → List Given
finder_table s slice first count = piece_table (finding.invalid s) (length slice) first count
