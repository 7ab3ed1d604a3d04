-- The readings of a tributary: which votes each frame acts on. A reading is an extraction by votes that are given (crates/extraction/specs/Quarters.antt),
-- here those of the line moved by a frame or not; about frames and places nothing new is said.
use Rattle.std.specs.Prelude.{cond, List, [], ◌∷◌, ◌++◌, ℕ, ◌*◌, length, get_or, take, drop}
use Rattle.digits.specs.Digits.{digits_of}
use Rattle.table.specs.declared.Row.{Row}
use Rattle.levels.specs.Sizes.{frames_of}
use Rattle.levels.specs.Order.{has_negative}
use Rattle.reading.specs.Notes.{notes_of}
use Rattle.extraction.specs.Quarters.{taken_to}

-- the decisions are the majorities of the line: a note for each of its frames
abbrev pub majorities : Row → List ℕ → List ℕ
majorities row line = notes_of row (digits_of line) (frames_of row (length line))

-- the digits of tributary j (from 0), read by these votes: the first is the vote before frame 0, then each frame has its own
unfoldable pub read_by : Row → List ℕ → List ℕ → ℕ → List ℕ
read_by row line votes j = taken_to row (get_or votes 0 0) (drop 1 votes) (digits_of line) j (2 * length line)

-- a decision that the line does not hold is unknown; it is tried both ways, for no tributary stuffed and for all four
abbrev pub none_stuffed : ℕ
none_stuffed = 0

abbrev pub all_stuffed : ℕ
all_stuffed = 0b1111

-- by the decision of its own frame: frame f acts on vote f and, at levels 12 and 14, f − 1
abbrev pub own_votes : ℕ → List ℕ → List ℕ
own_votes earlier notes = earlier ∷ notes

-- by that of the frame before, where the index is late: frame f acts on vote f − 1 and f − 2, "in frame 0 on the earlier vote and an unknown one". Levels 2 to 4
-- know no earlier vote: there frame 0 acts on the unknown one
abbrev pub before_votes : Row → ℕ → List ℕ → ℕ → List ℕ
before_votes row earlier notes unknown = unknown ∷ take (length notes) (cond (has_negative row) earlier unknown ∷ notes)

-- by that of the frame after, where it is early: frame f acts on vote f + 1 and f, the last on an unknown one
abbrev pub after_votes : List ℕ → ℕ → List ℕ
after_votes notes unknown = notes ++ (unknown ∷ [])
