-- The two calls: a fresh state, and a piece fed to a state. Document 01, "Finding frames in a stream" and "Refusal numbers", and
-- document 02, requests 4 and 8.
use Rattle.std.specs.Prelude.{◌≡◌, Bool, cond, true, false, not, ◌&&◌, ◌||◌, List, [], ◌∷◌, ℕ, suc, ◌+◌, ◌*◌, ◌^◌, eqb, ltb, leb, length, replicate, Option, Some, None}
use Rattle.digits.specs.Runs.{piece_of}
use Rattle.table.specs.declared.Row.{Row}
use Rattle.table.specs.Table.{level_of}
use Rattle.modes.specs.declared.Mode.TheVariants.{Hunting}
use Rattle.modes.specs.declared.Core.{Core}
use Rattle.pieces.specs.declared.alarm.Stretch.{Stretch}
use Rattle.receiver.specs.declared.State.{State}
use Rattle.receiver.specs.declared.Made.{Made}
use Rattle.receiver.specs.declared.Fed.{Fed}
use Rattle.modes.specs.Modes.{hunting, missed, step_of, tested_at, Valid}
use Rattle.pieces.specs.Frame.{keep_of, ready_of}
use Rattle.pieces.specs.Alarm.{count_of, fresh_stretch, uncounted, Counting}

-- a state is its level, its core, the frame in hand and the stretch that is being cut
abbrev pub core_of : State → Core
core_of s = record { window = s.window; seen = s.seen; mode = s.mode; place = s.place }

abbrev pub state_of : ℕ → Core → List ℕ → Stretch → State
state_of level c f st =
    record { level = level; window = c.window; seen = c.seen; mode = c.mode; place = c.place; frame = f; stretch = st }

-- ---- a fresh state

-- "A fresh state hunts and all its numbers but the level are 0", the array "all zero"
abbrev pub fresh_state : ℕ → State
fresh_state level = state_of level (record { window = 0; seen = 0; mode = Hunting; place = 0 }) (replicate 366 0) fresh_stretch

-- "one refused with 1 has level 0 too"
abbrev pub fresh_at : Option Row → ℕ → Made
fresh_at (Some row) level = record { refusal = 0; state = fresh_state level }
fresh_at None level = record { refusal = 1; state = fresh_state 0 }

abbrev pub fresh_of : ℕ → Made
fresh_of level = fresh_at (level_of level) level

-- the whole statement of making a fresh state
abbrev pub FreshMet : ℕ → Made → Type 0
FreshMet level made = made ≡ fresh_of level

-- ---- refusals

-- 6: "receiver state is not valid: [level wrong,] window at or over 2 to the L, digits seen over L, missed over 3, place at or
-- over N, hunting with a place other than 0, or not hunting with fewer than L digits seen"; and `uncounted` of crates/pieces/specs/Alarm.antt
unfoldable pub invalid : Row → Core → Bool
invalid row c =
    leb (2 ^ row.len) c.window
    || ltb row.len c.seen
    || ltb 3 (missed c.mode)
    || leb row.digits c.place
    || hunting c.mode && not (eqb c.place 0)
    || not (hunting c.mode) && ltb c.seen row.len

-- "For a piece: 6, 2, 7. The first that applies is the answer." 2: "slice over 65,536 bytes". 7: "first digit plus number of
-- digits is more than the slice holds"
unfoldable pub refusal_of : Row → Core → Stretch → ℕ → ℕ → ℕ → ℕ
refusal_of row c st bytes first count =
    cond (invalid row c || uncounted row st) 6 (cond (ltb 65536 bytes) 2 (cond (ltb (8 * bytes) (first + count)) 7 0))

-- "Under a refusal .. digits taken are 0, no frame is ready, a state comes back equal"; the alarm "under a refusal none", and no word
-- is tested
abbrev pub refused : ℕ → State → Fed
refused number s = record { refusal = number; taken = 0; ready = false; alarm = false; words = 0; state = s }

-- ---- the run over a piece

-- what one digit makes of a state
unfoldable pub after_of : Row → State → ℕ → State
after_of row s d =
    state_of s.level (step_of row (core_of s) d) (keep_of row (step_of row (core_of s) d) d s.frame)
    (count_of row s.stretch d)

-- "It reports digits taken, whether a frame is ready", "the alarm at its end", and the words tested
abbrev pub accepted : State → ℕ → ℕ → Bool → Fed
accepted s taken words ready = record { refusal = 0; taken = taken; ready = ready; alarm = s.stretch.alarm; words = words; state = s }

-- these digits, where so many were taken and so many words tested before: it "stops after the digit that completes a frame, or at
-- the end of the piece", and each digit taken tests a word or none
unfoldable pub run_of : Row → List ℕ → ℕ → ℕ → State → Fed
run_of row [] taken words s = accepted s taken words false
run_of row (d ∷ ds) taken words s =
    cond (ready_of row (core_of (after_of row s d))) (accepted (after_of row s d) (suc taken) (words + tested_at row (core_of s)) true)
    (run_of row ds (suc taken) (words + tested_at row (core_of s)) (after_of row s d))

unfoldable pub feed_row : Row → State → List ℕ → ℕ → ℕ → Fed
feed_row row s slice first count =
    cond (eqb (refusal_of row (core_of s) s.stretch (length slice) first count) 0) (run_of row (piece_of slice first count) 0 0 s)
    (refused (refusal_of row (core_of s) s.stretch (length slice) first count) s)

-- "level wrong" is the first item of 6
abbrev pub feed_at : Option Row → State → List ℕ → ℕ → ℕ → Fed
feed_at (Some row) s slice first count = feed_row row s slice first count
feed_at None s slice first count = refused 6 s

abbrev pub feed_of : State → List ℕ → ℕ → ℕ → Fed
feed_of s slice first count = feed_at (level_of s.level) s slice first count

-- the whole statement of feeding a piece
abbrev pub FeedMet : State → List ℕ → ℕ → ℕ → Fed → Type 0
FeedMet s slice first count fed = fed ≡ feed_of s slice first count

-- a state of this row that is not refused with 6
abbrev pub ValidState : Row → State → Type 0
ValidState row s = Valid row (core_of s) × Counting row s.stretch
