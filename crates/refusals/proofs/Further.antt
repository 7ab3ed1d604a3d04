-- The verdict, the plain engine, and the calls beside the documents' own: each one's refusal number is the first of its table that applies.
use Rattle.std.specs.Prelude.{Option, Some, None}
use mathlib.Core.Path.{◌≡◌, refl}
use mathlib.Core.Bool.{Bool, cond, true, false, not, ◌&&◌}
use mathlib.Core.List.{List}
use Prim.Native.Nat.{ℕ, zero, suc, ◌+◌, ◌-◌, ◌*◌, ◌^◌}
use native.Mathlib.Omega.{arith}
use lib.Dec.{eqb, ltb, leb}
use lib.ListN.{length}
use borrow.Author.Tests.{ltb-true, ltb-false, lt-leb, le-leb, lt-ltb, ne_eqb}
use Rattle.table.specs.declared.Row.{Row}
use Rattle.table.specs.Table.{level_of}
use Rattle.levels.specs.Sizes.{bad_line, bad_buffer}
use Rattle.levels.specs.Faults.{bad_earlier, send_fault_of, send_answered, answered}
use Rattle.multiplex.specs.Multiplex as multiplex
use Rattle.reading.specs.Reading.{noted, notes_after}
use Rattle.extraction.specs.Extract.{buffer_after}
use Rattle.engine.specs.Engine.{Answered, NotesRead}
use Rattle.engine.specs.Engine as plain
use Rattle.plain_promises.proofs.Engines.{same-multiplexing, same-reading, same-extraction}
use Rattle.judge.specs.Verdict as judge
use Rattle.judge.specs.Verdict.{bad_pattern, judged}
use Rattle.differing.specs.Differing.{counted_on}
use Rattle.compare.specs.Lines.{lines_refusal, lines_of, stretch_on, stretch_of}
use Rattle.copying.specs.Copying.{has_digits, copies, CopyMet}
use Rattle.naming.specs.Frames as frames
use Rattle.naming.specs.Multiframes as multiframes
use Rattle.late.specs.Late.{late_answer}
use Rattle.begins.specs.Begins.{asks, begun_in}
use Rattle.multiframe_start.specs.Start.{started}
use Rattle.refusals.specs.First.{FirstThatApplies}
use Rattle.refusals.specs.Tables.{extract_table, multiplex_table, read_notes_table}
use Rattle.refusals.specs.Further.{judge_table, lines_table, stretch_table, copy_table, place_table, multiframe_place_table, begins_table, start_table}
use Rattle.refusals.proofs.First.{first_of, is-first}
use Rattle.refusals.proofs.Tables.{multiplex-order, extract-order, read-notes-order}

-- the two ways to ask which of two numbers is greater
leb-by : (a b : ℕ) (t : Bool) → ltb b a ≡ t → leb a b ≡ not t
leb-by a b true e = lt-leb a b (ltb-true b a e)
leb-by a b false e = le-leb a b (ltb-false b a e)

not-leb : (a b : ℕ) → leb a b ≡ not (ltb b a)
not-leb a b = leb-by a b (ltb b a) refl

-- ---- the verdict

pub judge-order : (level earlier : ℕ) (line : List ℕ) (pattern : ℕ) (buffer : List ℕ)
    → FirstThatApplies (judge_table level earlier (length line) pattern (length buffer)) (judged level earlier line pattern buffer).refusal
unfolding judge.number_of judge.judgement
judge-order level earlier line pattern buffer =
    is-first (judge_table level earlier (length line) pattern (length buffer)) (judged level earlier line pattern buffer).refusal (go (level_of level) refl)
  where
    go : (l : Option Row) → level_of level ≡ l → first_of (judge_table level earlier (length line) pattern (length buffer)) ≡ (judged level earlier line pattern buffer).refusal
    go (Some row) e =
        by (bad_pattern pattern) (bad_line row (length line)) (eqb pattern 0 && bad_buffer row (length line) (length buffer)) (bad_earlier row earlier) refl refl refl refl
      where
        by : (p a c d : Bool) → bad_pattern pattern ≡ p → bad_line row (length line) ≡ a → (eqb pattern 0 && bad_buffer row (length line) (length buffer)) ≡ c → bad_earlier row earlier ≡ d
            → first_of (judge_table level earlier (length line) pattern (length buffer)) ≡ (judged level earlier line pattern buffer).refusal
        by true a c d ep ea ec ed = rw (e, ep)
        by false true c d ep ea ec ed = rw (e, ep, ea)
        by false false true d ep ea ec ed = rw (e, ep, ea, ec)
        by false false false true ep ea ec ed = rw (e, ep, ea, ec, ed)
        by false false false false ep ea ec ed = rw (e, ep, ea, ec, ed)
    go None e = rw e

-- ---- the plain engine: it refuses as the other one does (crate plain_promises)

pub plain-multiplex-order : (level earlier : ℕ) (line notes buffer : List ℕ) (answer : Answered) (left : List ℕ)
    → plain.MultiplexMet level earlier line notes buffer answer left
    → FirstThatApplies (multiplex_table level earlier (length line) notes (length buffer)) answer.refusal
plain-multiplex-order level earlier line notes buffer answer left met =
    let same = same-multiplexing level earlier line notes buffer (send_answered level earlier (length line) notes (length buffer))
    (multiplex.line_after level earlier line notes buffer) answer left (refl, refl) met in
    rw same.0.refusal at (multiplex-order level earlier (length line) notes (length buffer))

pub plain-read-notes-order : (level : ℕ) (line notes : List ℕ) (answer : NotesRead) (left : List ℕ) → plain.ReadNotesMet level line notes answer left
    → FirstThatApplies (read_notes_table level (length line) (length notes)) answer.refusal
plain-read-notes-order level line notes answer left met =
    let same = same-reading level line notes (noted level line (length notes)) (notes_after level line notes) answer left (refl, refl) met in
    rw same.0.refusal at (read-notes-order level line (length notes))

pub plain-extract-order : (level earlier : ℕ) (line notes buffer : List ℕ) (answer : Answered) (left : List ℕ)
    → plain.ExtractMet level earlier line notes buffer answer left
    → FirstThatApplies (extract_table level earlier (length line) notes (length buffer)) answer.refusal
plain-extract-order level earlier line notes buffer answer left met =
    let same = same-extraction level earlier line notes buffer (answered level earlier (length line) notes (length buffer))
    (buffer_after level earlier line notes buffer) answer left (refl, refl) met in
    rw same.0.refusal at (extract-order level earlier (length line) notes (length buffer))

-- ---- the late line: refused as multiplexing refuses the notes that it is given

pub late-order : (level earlier line : ℕ) (notes : List ℕ) (buffer : ℕ)
    → FirstThatApplies (multiplex_table level earlier line notes buffer) (late_answer level earlier line notes buffer).refusal
late-order level earlier line notes buffer = rw (go (level_of level) refl) at (multiplex-order level earlier line notes buffer)
  where
    go : (l : Option Row) → level_of level ≡ l → (send_answered level earlier line notes buffer).refusal ≡ (late_answer level earlier line notes buffer).refusal
    go (Some row) e = by (eqb (send_fault_of row earlier line notes buffer).refusal 0) refl
      where
        by : (t : Bool) → eqb (send_fault_of row earlier line notes buffer).refusal 0 ≡ t
            → (send_answered level earlier line notes buffer).refusal ≡ (late_answer level earlier line notes buffer).refusal
        by true t = rw (e, t)
        by false t = rw (e, t)
    go None e = rw e

-- ---- two lines

pub lines-order : (level : ℕ) (one other : List ℕ) → FirstThatApplies (lines_table level (length one) (length other)) (lines_of level one other).refusal
unfolding lines_refusal lines_of counted_on
lines-order level one other = is-first (lines_table level (length one) (length other)) (lines_of level one other).refusal (go (level_of level) refl)
  where
    go : (l : Option Row) → level_of level ≡ l → first_of (lines_table level (length one) (length other)) ≡ (lines_of level one other).refusal
    go (Some row) e = by (bad_line row (length one)) (eqb (length other) (length one)) refl refl
      where
        by : (a b : Bool) → bad_line row (length one) ≡ a → eqb (length other) (length one) ≡ b
            → first_of (lines_table level (length one) (length other)) ≡ (lines_of level one other).refusal
        by true b ea eb = rw (e, ea)
        by false true ea eb = rw (e, ea, eb)
        by false false ea eb = rw (e, ea, eb)
    go None e = rw e

pub stretch-order : (level : ℕ) (one other : List ℕ) (first count : ℕ)
    → FirstThatApplies (stretch_table level (length one) (length other) first count) (stretch_of level one other first count).refusal
unfolding lines_refusal stretch_of stretch_on
stretch-order level one other first count =
    is-first (stretch_table level (length one) (length other) first count) (stretch_of level one other first count).refusal (go (level_of level) refl)
  where
    go : (l : Option Row) → level_of level ≡ l → first_of (stretch_table level (length one) (length other) first count) ≡ (stretch_of level one other first count).refusal
    go (Some row) e = by (bad_line row (length one)) (eqb (length other) (length one)) (ltb (8 * length one) (first + count)) refl refl refl
      where
        by : (a b c : Bool) → bad_line row (length one) ≡ a → eqb (length other) (length one) ≡ b → ltb (8 * length one) (first + count) ≡ c
            → first_of (stretch_table level (length one) (length other) first count) ≡ (stretch_of level one other first count).refusal
        by true b c ea eb ec = rw (e, ea)
        by false false c ea eb ec = rw (e, ea, eb)
        by false true true ea eb ec = rw (e, ea, eb, ec)
        by false true false ea eb ec = rw (e, ea, eb, ec)
    go None e = rw e

-- ---- digits carried

pub copy-order : (to : List ℕ) (at : ℕ) (from : List ℕ) (first count answer : ℕ) (left : List ℕ) → CopyMet to at from first count answer left
    → FirstThatApplies (copy_table (length to) at (length from) first count) answer
unfolding copies has_digits
copy-order to at from first count answer left met =
    is-first (copy_table (length to) at (length from) first count) answer
    (rw (met.refusal, not-leb (at + count) (8 * length to), not-leb (first + count) (8 * length from))
    (by (ltb (8 * length to) (at + count)) (ltb (8 * length from) (first + count)) refl refl))
  where
    by : (a b : Bool) → ltb (8 * length to) (at + count) ≡ a → ltb (8 * length from) (first + count) ≡ b
        → first_of (copy_table (length to) at (length from) first count)
        ≡ cond (not (ltb (8 * length to) (at + count)) && not (ltb (8 * length from) (first + count))) 0 7
    by true b ea eb = rw ea
    by false true ea eb = rw (ea, eb)
    by false false ea eb = rw (ea, eb)

-- ---- the names of places

pub place-order : (level p : ℕ) → FirstThatApplies (place_table level p) (frames.placed level p).refusal
unfolding frames.place_in
place-order level p = is-first (place_table level p) (frames.placed level p).refusal (go (level_of level) refl)
  where
    go : (l : Option Row) → level_of level ≡ l → first_of (place_table level p) ≡ (frames.placed level p).refusal
    go (Some row) e = by (ltb p row.digits) refl
      where
        by : (a : Bool) → ltb p row.digits ≡ a → first_of (place_table level p) ≡ (frames.placed level p).refusal
        by true ea = rw (e, not-leb row.digits p, ea)
        by false ea = rw (e, not-leb row.digits p, ea)
    go None e = rw e

pub multiframe-place-order : (p : ℕ) → FirstThatApplies (multiframe_place_table p) (multiframes.multiframe_placed p).refusal
multiframe-place-order p = is-first (multiframe_place_table p) (multiframes.multiframe_placed p).refusal (by (ltb p 4096) refl)
  where
    by : (a : Bool) → ltb p 4096 ≡ a → first_of (multiframe_place_table p) ≡ (multiframes.multiframe_placed p).refusal
    by true ea = rw (not-leb 4096 p, ea)
    by false ea = rw (not-leb 4096 p, ea)

-- ---- where something begins

some : (n : ℕ) → ltb 0 n ≡ not (eqb n 0)
some zero = refl
some (suc n) = rw (ne_eqb (suc n) 0 (λ e. omega arith)) (lt-ltb 0 (suc n) (omega arith))

pub begins-order : (read : List ℕ) (digits : ℕ) (sent : List ℕ) (first count : ℕ)
    → FirstThatApplies (begins_table (length read) digits (length sent) first count) (begun_in read digits sent first count).refusal
unfolding asks
begins-order read digits sent first count =
    is-first (begins_table (length read) digits (length sent) first count) (begun_in read digits sent first count).refusal
    (by (eqb count 0) (ltb (8 * length read) digits) (ltb (first + (count - 1) + digits) (2 ^ 64)) (ltb (8 * length sent) (first + (count - 1) + digits)) refl refl refl refl)
  where
    by : (a b c d : Bool) → eqb count 0 ≡ a → ltb (8 * length read) digits ≡ b → ltb (first + (count - 1) + digits) (2 ^ 64) ≡ c
        → ltb (8 * length sent) (first + (count - 1) + digits) ≡ d
        → first_of (begins_table (length read) digits (length sent) first count) ≡ (begun_in read digits sent first count).refusal
    by true b c d ea eb ec ed = rw (some count, ea)
    by false true c d ea eb ec ed = rw (some count, not-leb digits (8 * length read), ea, eb)
    by false false false d ea eb ec ed = rw (some count, not-leb digits (8 * length read), not-leb (2 ^ 64) (first + (count - 1) + digits), ea, eb, ec)
    by false false true true ea eb ec ed =
        rw (some count, not-leb digits (8 * length read), not-leb (2 ^ 64) (first + (count - 1) + digits), not-leb (first + (count - 1) + digits) (8 * length sent), ea, eb, ec, ed)
    by false false true false ea eb ec ed =
        rw (some count, not-leb digits (8 * length read), not-leb (2 ^ 64) (first + (count - 1) + digits), not-leb (first + (count - 1) + digits) (8 * length sent), ea, eb, ec, ed)

pub start-order : (sixteen : List ℕ) → FirstThatApplies (start_table (length sixteen)) (started sixteen).refusal
start-order sixteen = is-first (start_table (length sixteen)) (started sixteen).refusal (by (eqb (length sixteen) 512) refl)
  where
    by : (a : Bool) → eqb (length sixteen) 512 ≡ a → first_of (start_table (length sixteen)) ≡ (started sixteen).refusal
    by true ea = rw ea
    by false ea = rw ea
