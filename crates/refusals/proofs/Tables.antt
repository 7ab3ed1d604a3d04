-- Each call's refusal number is the first of its table that applies.
use Rattle.std.specs.Prelude.{Option, Some, None}
use mathlib.Core.Path.{◌≡◌, refl, sym, ◌∙◌}
use mathlib.Core.Bool.{Bool, cond, true, false, not, ◌||◌, ◌&&◌, true≢false}
use mathlib.Core.List.{List, [], ◌∷◌}
use Prim.Native.Nat.{ℕ, zero, suc, ◌+◌, ◌*◌, ◌<◌}
use native.Mathlib.Omega.{arith}
use lib.Dec.{eqb, ltb, leb}
use lib.ListN.{length}
use borrow.Author.Tests.{lt-ltb, le-ltb, ltb-true, ltb-false, eqb-true, eqb-false, ne_eqb}
use Rattle.table.specs.declared.Row.{Row}
use Rattle.table.specs.Table.{level_of}
use Rattle.levels.specs.Sizes.{on_level, bad_line, bad_notes, bad_buffer, frames_refusal, size_refusal}
use Rattle.levels.specs.Faults.{first_with, overfull, unset, bad_earlier, fault_of, send_fault_of, answered, send_answered}
use Rattle.digits.proofs.Tests.{cond-told}
use Rattle.reading.specs.Reading.{noted}
use Rattle.swap.specs.Swap as swap
use Rattle.swap.specs.Swap.{bad_tributary, bad_room, swapped}
use Rattle.repair.specs.Repair as repair
use Rattle.repair.specs.Repair.{repaired}
use Rattle.captures.specs.declared.Reading.{Reading}
use Rattle.captures.specs.Captures.{file_of, write_refusal, written_of, end_at, field_at, after_line, fields_of, read_of}
use Rattle.differing.specs.Differing.{counted_on}
use Rattle.compare.specs.Compare as compare
use Rattle.receiver.specs.declared.State.{State}
use Rattle.receiver.specs.declared.Fed.{Fed}
use Rattle.modes.specs.Modes.{tested_at}
use Rattle.pieces.specs.Frame.{ready_of}
use Rattle.pieces.specs.Alarm.{uncounted}
use Rattle.digits.specs.Runs.{piece_of}
use Rattle.receiver.specs.Feed.{core_of, fresh_of, invalid, refusal_of, after_of, run_of, feed_row, feed_of}
use Rattle.records.specs.declared.record.Record.{Record}
use Rattle.records.specs.declared.record.Kept.{Kept}
use Rattle.receiver.specs.Numbers.{fed_by}
use Rattle.rack.specs.Rack.{kept_reset}
use Rattle.records.specs.Record.{state_from, fed_record}
use Rattle.rack.specs.Rack.{at, refusal_by, fed_alone}
use Rattle.records.specs.Rule.{list_refusal, count_refusal}
use Rattle.multiframe.specs.Calls.{lengths_right, silent_from, first_silent, built_of}
use Rattle.finder_2048.specs.declared.State as finder
use Rattle.finder_2048.specs.Feed as finding
use Rattle.refusals.specs.First.{Given, given, FirstThatApplies}
use Rattle.refusals.specs.Tables.{any_of, extract_table, multiplex_table, read_notes_table, swap_table, repair_table, write_table, read_table}
use Rattle.refusals.specs.Tables.{no_level, compare_table, fresh_table, piece_table, feed_table, bad_record, rack_feed_table, rack_reset_table, rack_count_table, apart_table, silent, build_table, finder_table}
use Rattle.refusals.proofs.First.{first_of, is-first}

abbrev Nine : Reading → Type 0
Nine r = eqb r.refusal 0 ≡ false → r.refusal ≡ 9

-- the first note that is so comes before the end exactly if one is so
first_any : (test : ℕ → Bool) (notes : List ℕ) → ltb (first_with test notes) (length notes) ≡ any_of test notes
unfolding first_with any_of
first_any test [] = refl
first_any test (note ∷ notes) = go (test note) (first_any test notes)
  where
    go : (t : Bool) → ltb (first_with test notes) (length notes) ≡ any_of test notes
        → ltb (cond t 0 (suc (first_with test notes))) (suc (length notes)) ≡ (t || any_of test notes)
    go true e = lt-ltb 0 (suc (length notes)) (omega arith)
    go false e = next (first_with test notes) (length notes) ∙ e
      where
        next : (a b : ℕ) → ltb (suc a) (suc b) ≡ ltb a b
        next a b = by (ltb a b) refl
          where
            by : (t : Bool) → ltb a b ≡ t → ltb (suc a) (suc b) ≡ t
            by true e = lt-ltb (suc a) (suc b) (omega (arith, ltb-true a b e))
            by false e = le-ltb (suc a) (suc b) (omega (arith, ltb-false a b e))

-- ---- lines

module _ (level : ℕ) (row : Row) (e : level_of level ≡ Some row) (earlier line : ℕ) (notes : List ℕ) (buffer : ℕ) where
  extract-by : (a b c d v : Bool) → bad_line row line ≡ a → bad_notes row line (length notes) ≡ b → bad_buffer row line buffer ≡ c → bad_earlier row earlier ≡ d
      → any_of (overfull row) notes ≡ v → first_of (extract_table level earlier line notes buffer) ≡ (answered level earlier line notes buffer).refusal
  unfolding frames_refusal size_refusal fault_of
  extract-by true b c d v ea eb ec ed ev = rw (e, ea)
  extract-by false true c d v ea eb ec ed ev = rw (e, ea, eb)
  extract-by false false true d v ea eb ec ed ev = rw (e, ea, eb, ec)
  extract-by false false false true v ea eb ec ed ev = rw (e, ea, eb, ec, ed)
  extract-by false false false false true ea eb ec ed ev = rw (e, ea, eb, ec, ed, ev, first_any (overfull row) notes, ev)
  extract-by false false false false false ea eb ec ed ev = rw (e, ea, eb, ec, ed, ev, first_any (overfull row) notes, ev)

pub extract-order : (level earlier line : ℕ) (notes : List ℕ) (buffer : ℕ)
    → FirstThatApplies (extract_table level earlier line notes buffer) (answered level earlier line notes buffer).refusal
extract-order level earlier line notes buffer = is-first (extract_table level earlier line notes buffer) (answered level earlier line notes buffer).refusal (go (level_of level) refl)
  where
    go : (l : Option Row) → level_of level ≡ l → first_of (extract_table level earlier line notes buffer) ≡ (answered level earlier line notes buffer).refusal
    go (Some row) e =
        extract-by level row e earlier line notes buffer (bad_line row line) (bad_notes row line (length notes)) (bad_buffer row line buffer) (bad_earlier row earlier) (any_of (overfull row) notes)
        refl refl refl refl refl
    go None e = rw e

-- multiplexing: the same, then 10
module _ (level : ℕ) (row : Row) (e : level_of level ≡ Some row) (earlier line : ℕ) (notes : List ℕ) (buffer : ℕ) where
  multiplex-by : (a b c d v w : Bool) → bad_line row line ≡ a → bad_notes row line (length notes) ≡ b → bad_buffer row line buffer ≡ c → bad_earlier row earlier ≡ d
      → any_of (overfull row) notes ≡ v → any_of (unset row) notes ≡ w
      → first_of (multiplex_table level earlier line notes buffer) ≡ (send_answered level earlier line notes buffer).refusal
  unfolding frames_refusal size_refusal fault_of send_fault_of
  multiplex-by true b c d v w ea eb ec ed ev ew = rw (e, ea)
  multiplex-by false true c d v w ea eb ec ed ev ew = rw (e, ea, eb)
  multiplex-by false false true d v w ea eb ec ed ev ew = rw (e, ea, eb, ec)
  multiplex-by false false false true v w ea eb ec ed ev ew = rw (e, ea, eb, ec, ed)
  multiplex-by false false false false true w ea eb ec ed ev ew = rw (e, ea, eb, ec, ed, ev, first_any (overfull row) notes, ev)
  multiplex-by false false false false false true ea eb ec ed ev ew =
      rw (e, ea, eb, ec, ed, ev, first_any (overfull row) notes, ev, ew, first_any (unset row) notes, ew)
  multiplex-by false false false false false false ea eb ec ed ev ew =
      rw (e, ea, eb, ec, ed, ev, first_any (overfull row) notes, ev, ew, first_any (unset row) notes, ew)

pub multiplex-order : (level earlier line : ℕ) (notes : List ℕ) (buffer : ℕ)
    → FirstThatApplies (multiplex_table level earlier line notes buffer) (send_answered level earlier line notes buffer).refusal
multiplex-order level earlier line notes buffer =
    is-first (multiplex_table level earlier line notes buffer) (send_answered level earlier line notes buffer).refusal (go (level_of level) refl)
  where
    go : (l : Option Row) → level_of level ≡ l → first_of (multiplex_table level earlier line notes buffer) ≡ (send_answered level earlier line notes buffer).refusal
    go (Some row) e =
        multiplex-by level row e earlier line notes buffer (bad_line row line) (bad_notes row line (length notes)) (bad_buffer row line buffer) (bad_earlier row earlier)
        (any_of (overfull row) notes) (any_of (unset row) notes) refl refl refl refl refl refl
    go None e = rw e

pub read-notes-order : (level : ℕ) (line : List ℕ) (notes : ℕ) → FirstThatApplies (read_notes_table level (length line) notes) (noted level line notes).refusal
unfolding frames_refusal
read-notes-order level line notes = is-first (read_notes_table level (length line) notes) (noted level line notes).refusal (go (level_of level) refl)
  where
    go : (l : Option Row) → level_of level ≡ l → first_of (read_notes_table level (length line) notes) ≡ (noted level line notes).refusal
    go (Some row) e = by (bad_line row (length line)) (bad_notes row (length line) notes) refl refl
      where
        by : (a b : Bool) → bad_line row (length line) ≡ a → bad_notes row (length line) notes ≡ b → first_of (read_notes_table level (length line) notes) ≡ (noted level line notes).refusal
        by true b ea eb = rw (e, ea)
        by false true ea eb = rw (e, ea, eb)
        by false false ea eb = rw (e, ea, eb)
    go None e = rw e

pub swap-order : (level earlier tributary line : ℕ) (notes : List ℕ) (buffer : ℕ)
    → FirstThatApplies (swap_table level earlier tributary line (length notes) buffer) (swapped level earlier tributary line notes buffer).refusal
unfolding frames_refusal swap.number_of
swap-order level earlier tributary line notes buffer =
    is-first (swap_table level earlier tributary line (length notes) buffer) (swapped level earlier tributary line notes buffer).refusal (go (level_of level) refl)
  where
    go : (l : Option Row) → level_of level ≡ l → first_of (swap_table level earlier tributary line (length notes) buffer) ≡ (swapped level earlier tributary line notes buffer).refusal
    go (Some row) e =
        by (bad_tributary tributary) (bad_line row line) (bad_notes row line (length notes)) (bad_room row line buffer) (bad_earlier row earlier) refl refl refl refl refl
      where
        by : (j a b c d : Bool) → bad_tributary tributary ≡ j → bad_line row line ≡ a → bad_notes row line (length notes) ≡ b → bad_room row line buffer ≡ c → bad_earlier row earlier ≡ d
            → first_of (swap_table level earlier tributary line (length notes) buffer) ≡ (swapped level earlier tributary line notes buffer).refusal
        by true a b c d ej ea eb ec ed = rw (e, ej)
        by false true b c d ej ea eb ec ed = rw (e, ej, ea)
        by false false true c d ej ea eb ec ed = rw (e, ej, ea, eb)
        by false false false true d ej ea eb ec ed = rw (e, ej, ea, eb, ec)
        by false false false false true ej ea eb ec ed = rw (e, ej, ea, eb, ec, ed)
        by false false false false false ej ea eb ec ed = rw (e, ej, ea, eb, ec, ed)
    go None e = rw e

pub repair-order : (level earlier : ℕ) (national : Bool) (line : List ℕ)
    → FirstThatApplies (repair_table level earlier (length line)) (repaired level earlier national line).refusal
unfolding repair.number_of repair.changed
repair-order level earlier national line = is-first (repair_table level earlier (length line)) (repaired level earlier national line).refusal (go (level_of level) refl)
  where
    go : (l : Option Row) → level_of level ≡ l → first_of (repair_table level earlier (length line)) ≡ (repaired level earlier national line).refusal
    go (Some row) e = by (bad_line row (length line)) (bad_earlier row earlier) refl refl
      where
        by : (a d : Bool) → bad_line row (length line) ≡ a → bad_earlier row earlier ≡ d → first_of (repair_table level earlier (length line)) ≡ (repaired level earlier national line).refusal
        by true d ea ed = rw (e, ea)
        by false true ea ed = rw (e, ea, ed)
        by false false ea ed = rw (e, ea, ed)
    go None e = rw e

-- ---- captures

pub write-order : (level : ℕ) (line label : List ℕ) (labelled : Bool) (room : ℕ)
    → FirstThatApplies (write_table level line label labelled room) (written_of level line label labelled room).refusal
unfolding write_refusal
write-order level line label labelled room = is-first (write_table level line label labelled room) (written_of level line label labelled room).refusal (go (level_of level) refl)
  where
    go : (l : Option Row) → level_of level ≡ l → first_of (write_table level line label labelled room) ≡ (written_of level line label labelled room).refusal
    go (Some row) e =
        by (bad_line row (length line)) (labelled && ltb 32 (length label)) (ltb room (length (file_of level line label labelled))) refl refl refl
      where
        by : (a b c : Bool) → bad_line row (length line) ≡ a → labelled && ltb 32 (length label) ≡ b → ltb room (length (file_of level line label labelled)) ≡ c
            → first_of (write_table level line label labelled room) ≡ (written_of level line label labelled room).refusal
        by true b c ea eb ec = rw (e, ea)
        by false true c ea eb ec = rw (e, ea, eb)
        by false false true ea eb ec = rw (e, ea, eb, ec)
        by false false false ea eb ec = rw (e, ea, eb, ec)
    go None e = rw e

-- a run of fields is at fault with 9, or with nothing
nine-or-none : (file : List ℕ) → eqb (fields_of file).refusal 0 ≡ false → (fields_of file).refusal ≡ 9
unfolding fields_of after_line
nine-or-none file =
    cond-told Nine (field_at file 0 1 1 1)
    (λ _. cond-told Nine (field_at file 4 2 0 65535)
    (λ _. cond-told Nine (eqb (end_at file 4) (length file)) (λ _ e. absurd (true≢false e))
    (λ _. cond-told Nine (field_at file (end_at file 4) 3 0 32)
    (λ _. cond-told Nine (eqb (end_at file (end_at file 4)) (length file)) (λ _ e. absurd (true≢false e)) (λ _ _. refl)) (λ _ _. refl)))
    (λ _ _. refl))
    (λ _ _. refl)

pub read-order : (file : List ℕ) → FirstThatApplies (read_table file) (read_of file).refusal
read-order file = is-first (read_table file) (read_of file).refusal (go (eqb (fields_of file).refusal 0) refl (level_of (fields_of file).level) refl)
  where
    go : (t : Bool) → eqb (fields_of file).refusal 0 ≡ t → (l : Option Row) → level_of (fields_of file).level ≡ l → first_of (read_table file) ≡ (read_of file).refusal
    go false none l e = rw none (sym (nine-or-none file none))
    go true none None e = rw (none, e)
    go true none (Some row) e = by (bad_line row (fields_of file).line.bytes) refl
      where
        by : (a : Bool) → bad_line row (fields_of file).line.bytes ≡ a → first_of (read_table file) ≡ (read_of file).refusal
        by true ea = rw (none, e, ea)
        by false ea = rw (none, e, ea) (sym (eqb-true (fields_of file).refusal 0 none))

-- an accepted capture has a level
has-level : (file : List ℕ) → (read_of file).refusal ≡ 0 → level_of (read_of file).level ≡ None → ⊥
has-level file ok none = go (eqb (fields_of file).refusal 0) refl (level_of (fields_of file).level) refl
  where
    one : ◌≡◌ {A = ℕ} 1 0 → ⊥
    one e = omega arith

    go : (t : Bool) → eqb (fields_of file).refusal 0 ≡ t → (l : Option Row) → level_of (fields_of file).level ≡ l → ⊥
    go false x l y = eqb-false (fields_of file).refusal 0 x (rw x at ok)
    go true x None y = one (rw (x, y) at ok)
    go true x (Some row) y = by-line (bad_line row (fields_of file).line.bytes) refl
      where
        two : ◌≡◌ {A = ℕ} 2 0 → ⊥
        two e = omega arith

        some : Some row ≡ None → ⊥
        some e = let z : ◌≡◌ {A = ℕ} 0 1 = cc in omega arith

        by-line : (t : Bool) → bad_line row (fields_of file).line.bytes ≡ t → ⊥
        by-line true z = two (rw (x, y, z) at ok)
        by-line false z = some (sym y ∙ (rw (x, y, z) at none))

pub compare-order : (one other : List ℕ) → FirstThatApplies (compare_table one other) (compare.compared_of one other).refusal
unfolding compare.fault_of compare.compared_of counted_on
compare-order one other =
    is-first (compare_table one other) (compare.compared_of one other).refusal
    (by (eqb (read_of one).refusal 0) (eqb (read_of other).refusal 0) (eqb (read_of one).level (read_of other).level) (eqb (read_of one).line.bytes (read_of other).line.bytes) refl refl refl refl)
  where
    accepted : (l : Option Row) → level_of (read_of one).level ≡ l → (read_of one).refusal ≡ 0
        → 0 ≡ (on_level l (λ (row : Row). counted_on row (compare.line_of one) (compare.line_of other)) (compare.refused_by (compare.fault_in 1 0 0))).refusal
    accepted (Some row) e ok = refl
    accepted None e ok = absurd (has-level one ok e)

    by : (a b c d : Bool) → eqb (read_of one).refusal 0 ≡ a → eqb (read_of other).refusal 0 ≡ b → eqb (read_of one).level (read_of other).level ≡ c
        → eqb (read_of one).line.bytes (read_of other).line.bytes ≡ d → first_of (compare_table one other) ≡ (compare.compared_of one other).refusal
    by false b c d ea eb ec ed = rw (ea, ea)
    by true false c d ea eb ec ed = rw (ea, eb, eb)
    by true true false d ea eb ec ed = rw (ea, eb, ec)
    by true true true false ea eb ec ed = rw (ea, eb, ec, ed)
    by true true true true ea eb ec ed = rw (ea, eb, ec, ed) (accepted (level_of (read_of one).level) refl (eqb-true (read_of one).refusal 0 ea))

-- ---- streams

pub fresh-order : (level : ℕ) → FirstThatApplies (fresh_table level) (fresh_of level).refusal
fresh-order level = is-first (fresh_table level) (fresh_of level).refusal (go (level_of level) refl)
  where
    go : (l : Option Row) → level_of level ≡ l → first_of (fresh_table level) ≡ (fresh_of level).refusal
    go (Some row) e = rw e
    go None e = rw e

-- a call that is run is not refused
run-accepted : (row : Row) (ds : List ℕ) (taken words : ℕ) (s : State) → (run_of row ds taken words s).refusal ≡ 0
unfolding run_of
run-accepted row [] taken words s = refl
run-accepted row (d ∷ ds) taken words s =
    cond-told (λ (f : Fed). f.refusal ≡ 0) (ready_of row (core_of (after_of row s d))) (λ _. refl)
    (λ _. run-accepted row ds (suc taken) (words + tested_at row (core_of s)) (after_of row s d))

feed-first : (s : State) (slice : List ℕ) (first count : ℕ) → first_of (feed_table s slice first count) ≡ (feed_of s slice first count).refusal
unfolding feed_row refusal_of
feed-first s slice first count = go (level_of s.level) refl
  where
    go : (l : Option Row) → level_of s.level ≡ l → first_of (feed_table s slice first count) ≡ (feed_of s slice first count).refusal
    go None e = rw e
    go (Some row) e = by (invalid row (core_of s) || uncounted row s.stretch) (ltb 65536 (length slice)) (ltb (8 * length slice) (first + count)) refl refl refl
      where
        by : (a b c : Bool) → (invalid row (core_of s) || uncounted row s.stretch) ≡ a → ltb 65536 (length slice) ≡ b → ltb (8 * length slice) (first + count) ≡ c
            → first_of (feed_table s slice first count) ≡ (feed_of s slice first count).refusal
        by true b c ea eb ec = rw (e, ea)
        by false true c ea eb ec = rw (e, ea, eb)
        by false false true ea eb ec = rw (e, ea, eb, ec)
        by false false false ea eb ec = rw (e, ea, eb, ec) (sym (run-accepted row (piece_of slice first count) 0 0 s))

pub feed-order : (s : State) (slice : List ℕ) (first count : ℕ) → FirstThatApplies (feed_table s slice first count) (feed_of s slice first count).refusal
feed-order s slice first count = is-first (feed_table s slice first count) (feed_of s slice first count).refusal (feed-first s slice first count)

-- ---- the rack

-- what comes after the list's own two
after_list : (number line : ℕ) (rest : List Given) (alone : Kept) → first_of rest ≡ alone.refusal
    → first_of (given 8 (leb number line) ∷ given 2 (ltb 64 number) ∷ rest) ≡ refusal_by number line alone
unfolding list_refusal
after_list number line rest alone same = by (leb number line) (ltb 64 number) refl refl
  where
    by : (a b : Bool) → leb number line ≡ a → ltb 64 number ≡ b → first_of (given 8 (leb number line) ∷ given 2 (ltb 64 number) ∷ rest) ≡ refusal_by number line alone
    by true b ea eb = rw ea
    by false true ea eb = rw (ea, eb)
    by false false ea eb = rw (ea, eb) same

rack-feed-first : (r : Record) (piece : List ℕ) (first count : ℕ) → first_of (piece_table (bad_record r) (length piece) first count) ≡ (fed_record r piece first count).refusal
unfolding fed_by
rack-feed-first r piece first count = by (ltb 1 r.few || ltb 1 r.alarm) refl
  where
    by : (t : Bool) → (ltb 1 r.few || ltb 1 r.alarm) ≡ t → first_of (piece_table (bad_record r) (length piece) first count) ≡ (fed_record r piece first count).refusal
    by true e = rw e
    by false e = rw e (feed-first (state_from r) piece first count)

pub rack-feed-order : (records : List Record) (line : ℕ) (piece : List ℕ) (first count : ℕ)
    → FirstThatApplies (rack_feed_table records line piece first count) (refusal_by (length records) line (fed_alone records line piece first count))
rack-feed-order records line piece first count =
    is-first (rack_feed_table records line piece first count) (refusal_by (length records) line (fed_alone records line piece first count))
    (after_list (length records) line (piece_table (bad_record (at records line)) (length piece) first count) (fed_alone records line piece first count)
    (rack-feed-first (at records line) piece first count))

pub rack-reset-order : (records : List Record) (line level : ℕ)
    → FirstThatApplies (rack_reset_table records line level) (refusal_by (length records) line (kept_reset level (at records line)))
rack-reset-order records line level =
    is-first (rack_reset_table records line level) (refusal_by (length records) line (kept_reset level (at records line)))
    (after_list (length records) line (given 1 (no_level level) ∷ []) (kept_reset level (at records line)) (go (level_of level) refl))
  where
    go : (l : Option Row) → level_of level ≡ l → first_of (fresh_table level) ≡ (fresh_of level).refusal
    go (Some row) e = rw e
    go None e = rw e

pub rack-count-order : (records : List Record) → FirstThatApplies (rack_count_table records) (count_refusal (length records))
unfolding count_refusal
rack-count-order records = is-first (rack_count_table records) (count_refusal (length records)) refl

-- ---- 2048 kbit/s

pub apart-order : (multiframe channels signalling spare : ℕ)
    → FirstThatApplies (apart_table multiframe channels signalling spare) (cond (lengths_right multiframe channels signalling spare) 0 2)
apart-order multiframe channels signalling spare =
    is-first (apart_table multiframe channels signalling spare) (cond (lengths_right multiframe channels signalling spare) 0 2) (by (lengths_right multiframe channels signalling spare))
  where
    by : (t : Bool) → ◌≡◌ {A = ℕ} (cond (not t) 2 0) (cond t 0 2)
    by true = refl
    by false = refl

-- a channel from c on is silent exactly if one is found, and channels count from 1
channels_from : ℕ → ℕ → List ℕ
channels_from c zero = []
channels_from c (suc n) = c ∷ channels_from (suc c) n

silent-found : (signalling : List ℕ) (n c : ℕ) → 0 < c → not (eqb (silent_from signalling c n) 0) ≡ any_of (silent signalling) (channels_from c n)
unfolding silent_from any_of channels_from
silent-found signalling zero c some = refl
silent-found signalling (suc n) c some = by (silent signalling c) (silent-found signalling n (suc c) (omega arith))
  where
    by : (t : Bool) → not (eqb (silent_from signalling (suc c) n) 0) ≡ any_of (silent signalling) (channels_from (suc c) n)
        → not (eqb (cond t c (silent_from signalling (suc c) n)) 0) ≡ (t || any_of (silent signalling) (channels_from (suc c) n))
    by true e = rw (ne_eqb c 0 (λ q. omega arith))
    by false e = e

pub build-order : (multiframe channels : ℕ) (signalling : List ℕ) (spare : ℕ)
    → FirstThatApplies (build_table multiframe channels signalling spare) (built_of multiframe channels signalling spare).refusal
unfolding channels_from
build-order multiframe channels signalling spare =
    is-first (build_table multiframe channels signalling spare) (built_of multiframe channels signalling spare).refusal
    (by (lengths_right multiframe channels (length signalling) spare) (eqb (first_silent signalling) 0) refl refl (silent-found signalling 15 1 (omega arith)))
  where
    by : (a b : Bool) → lengths_right multiframe channels (length signalling) spare ≡ a → eqb (first_silent signalling) 0 ≡ b
        → not (eqb (first_silent signalling) 0) ≡ any_of (silent signalling) (channels_from 1 15)
        → first_of (build_table multiframe channels signalling spare) ≡ (built_of multiframe channels signalling spare).refusal
    by false b ea eb same = rw ea
    by true true ea eb same = rw (ea, ← same, eb)
    by true false ea eb same = rw (ea, ← same, eb)

pub finder-order : (s : finder.State) (slice : List ℕ) (first count : ℕ) → FirstThatApplies (finder_table s slice first count) (finding.feed_of s slice first count).refusal
unfolding finding.feed_of finding.refusal_of
finder-order s slice first count =
    is-first (finder_table s slice first count) (finding.feed_of s slice first count).refusal (by (finding.invalid s) (ltb 65536 (length slice)) (ltb (8 * length slice) (first + count)) refl refl refl)
  where
    by : (a b c : Bool) → finding.invalid s ≡ a → ltb 65536 (length slice) ≡ b → ltb (8 * length slice) (first + count) ≡ c
        → first_of (finder_table s slice first count) ≡ (finding.feed_of s slice first count).refusal
    by true b c ea eb ec = rw ea
    by false true c ea eb ec = rw (ea, eb)
    by false false true ea eb ec = rw (ea, eb, ec)
    by false false false ea eb ec = rw (ea, eb, ec)
