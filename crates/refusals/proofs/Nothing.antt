-- A refused call does nothing: of each call that answers a refusal other than 0.
use Rattle.std.specs.Prelude.{Option, Some, None}
use mathlib.Core.Path.{◌≡◌, refl, ◌∙◌, ap}
use mathlib.Core.Bool.{Bool, cond, true, false, ◌||◌}
use mathlib.Core.List.{List}
use Prim.Native.Nat.{ℕ}
use lib.Dec.{eqb, ltb}
use lib.ListN.{length}
use lib.Seq.{set-get_or}
use borrow.Author.Tests.{eqb-true, eqb-false, ne_eqb}
use Rattle.digits.proofs.Tests.{cond-told}
use Rattle.table.specs.declared.Row.{Row}
use Rattle.table.specs.Table.{level_of}
use Rattle.levels.specs.Faults.{Fault}
use Rattle.levels.specs.Faults.{Counted}
use Rattle.levels.specs.Sizes.{bad_line, frames_refusal, size_refusal}
use Rattle.levels.specs.Faults.{first_with, fault, or_else, naming, overfull, unset, bad_earlier, earlier_fault, note_fault, national_fault, fault_of, send_fault_of, answered, send_answered}
use Rattle.levels.proofs.Choice.{cond-by}
use Rattle.reading.specs.Reading.{Noted}
use Rattle.reading.specs.Reading.{noted, notes_after, ReadNotesMet}
use Rattle.multiplex.specs.Multiplex as multiplex
use Rattle.extraction.specs.Extract.{ExtractMet, buffer_after}
use Rattle.swap.specs.Swap.{Swapped}
use Rattle.swap.specs.Swap as swap
use Rattle.repair.specs.Repair.{Repaired}
use Rattle.repair.specs.Repair as repair
use Rattle.captures.specs.Captures.{Written}
use Rattle.captures.specs.declared.Reading.{Reading}
use Rattle.captures.specs.Captures.{write_refusal, written_of, left_of, WriteMet, end_at, field_at, unread, after_line, fields_of, read_of, ReadMet}
use Rattle.differing.specs.declared.Compared.{Compared}
use Rattle.differing.specs.Differing.{counted_on}
use Rattle.compare.specs.declared.Fault as compared
use Rattle.compare.specs.Compare as comparing
use Rattle.compare.specs.Lines as two-lines
use Rattle.copying.specs.Copying.{copies, CopyMet}
use Rattle.late.specs.Late.{late_answer, late_left, LateMet}
use Rattle.multiframe.specs.Calls.{Built}
use Rattle.multiframe.specs.Calls.{lengths_right, first_silent, built_of, BuildMet}
use Rattle.finder_2048.specs.declared.State as finder
use Rattle.finder_2048.specs.declared.Fed as found
use Rattle.finder_2048.specs.Feed as finding
use Rattle.receiver.specs.declared.Fed.{Fed}
use Rattle.receiver.specs.Feed.{fresh_state}
use Rattle.receiver.specs.Nothing.{Nothing}
use Rattle.receiver.proofs.Nothing.{refused-nothing}
use Rattle.records.specs.declared.record.Record.{Record}
use Rattle.receiver.specs.Numbers.{fed_by}
use Rattle.records.specs.Record.{state_from, record_of, fed_record}
use Rattle.rack.specs.Rack as rack
use Rattle.records.specs.Rule.{list_refusal}
use Rattle.refusals.specs.Nothing.{CountedNothing, NotedNothing, SwappedNothing, RepairedNothing, ComparedNothing, WrittenNothing, ReadNothing, BuiltNothing, FoundNothing, RackNothing}

-- ---- lines

-- a frame is named under 5 and 10 alone
abbrev Names : Fault → Type 0
Names f = (f.refusal ≡ 5 → ⊥) → (f.refusal ≡ 10 → ⊥) → f.frame ≡ 0

names-5 : (test : ℕ → Bool) (notes : List ℕ) → Names (naming 5 test notes)
names-5 test notes = cond-by Names (ltb (first_with test notes) (length notes)) (λ five ten. absurd (five refl)) (λ five ten. refl)

names-10 : (test : ℕ → Bool) (notes : List ℕ) → Names (naming 10 test notes)
names-10 test notes = cond-by Names (ltb (first_with test notes) (length notes)) (λ five ten. absurd (ten refl)) (λ five ten. refl)

or-else : (one other : Fault) → Names one → Names other → Names (or_else one other)
or-else one other a b = cond-by Names (eqb one.refusal 0) b a

fault-names : (row : Row) (earlier line : ℕ) (notes : List ℕ) (buffer : ℕ) → Names (fault_of row earlier line notes buffer)
unfolding fault_of
fault-names row earlier line notes buffer =
    or-else (fault (size_refusal row line (length notes) buffer) 0) (or_else (earlier_fault row earlier) (note_fault row notes)) (λ five ten. refl)
    (or-else (earlier_fault row earlier) (note_fault row notes) (cond-by Names (bad_earlier row earlier) {a = fault 5 0} {b = fault 0 0} (λ five ten. refl) (λ five ten. refl))
    (names-5 (overfull row) notes))

send-names : (row : Row) (earlier line : ℕ) (notes : List ℕ) (buffer : ℕ) → Names (send_fault_of row earlier line notes buffer)
unfolding send_fault_of
send-names row earlier line notes buffer = or-else (fault_of row earlier line notes buffer) (national_fault row notes) (fault-names row earlier line notes buffer) (names-10 (unset row) notes)

pub multiplex-nothing : (level earlier : ℕ) (line notes buffer : List ℕ) (answer : Counted) (left : List ℕ) → multiplex.Met level earlier line notes buffer answer left
    → (answer.refusal ≡ 0 → ⊥) → CountedNothing answer line left
multiplex-nothing level earlier line notes buffer answer left met h = rw (met.0, met.1) (go (level_of level) refl (λ e. h (ap (λ (a : Counted). a.refusal) met.0 ∙ e)))
  where
    go : (l : Option Row) → level_of level ≡ l → ((send_answered level earlier (length line) notes (length buffer)).refusal ≡ 0 → ⊥)
        → CountedNothing (send_answered level earlier (length line) notes (length buffer)) line (multiplex.line_after level earlier line notes buffer)
    go None e refused = rw e (record { counts = refl; frame = λ five ten. refl; kept = refl })
    go (Some row) e refused = by (eqb f.refusal 0) refl
      where
        f : Fault
        f = send_fault_of row earlier (length line) notes (length buffer)

        by : (t : Bool) → eqb f.refusal 0 ≡ t
            → CountedNothing (send_answered level earlier (length line) notes (length buffer)) line (multiplex.line_after level earlier line notes buffer)
        by true t = absurd (refused (rw (e, t)))
        by false t = rw (e, t) (record { counts = refl; frame = send-names row earlier (length line) notes (length buffer); kept = refl })

pub extract-nothing : (level earlier : ℕ) (line notes buffer : List ℕ) (answer : Counted) (left : List ℕ) → ExtractMet level earlier line notes buffer answer left
    → (answer.refusal ≡ 0 → ⊥) → CountedNothing answer buffer left
extract-nothing level earlier line notes buffer answer left met h = rw (met.0, met.1) (go (level_of level) refl (λ e. h (ap (λ (a : Counted). a.refusal) met.0 ∙ e)))
  where
    go : (l : Option Row) → level_of level ≡ l → ((answered level earlier (length line) notes (length buffer)).refusal ≡ 0 → ⊥)
        → CountedNothing (answered level earlier (length line) notes (length buffer)) buffer (buffer_after level earlier line notes buffer)
    go None e refused = rw e (record { counts = refl; frame = λ five ten. refl; kept = refl })
    go (Some row) e refused = by (eqb f.refusal 0) refl
      where
        f : Fault
        f = fault_of row earlier (length line) notes (length buffer)

        by : (t : Bool) → eqb f.refusal 0 ≡ t
            → CountedNothing (answered level earlier (length line) notes (length buffer)) buffer (buffer_after level earlier line notes buffer)
        by true t = absurd (refused (rw (e, t)))
        by false t = rw (e, t) (record { counts = refl; frame = fault-names row earlier (length line) notes (length buffer); kept = refl })

pub read-notes-nothing : (level : ℕ) (line notes : List ℕ) (answer : Noted) (left : List ℕ) → ReadNotesMet level line notes answer left
    → (answer.refusal ≡ 0 → ⊥) → NotedNothing answer notes left
read-notes-nothing level line notes answer left met h = rw (met.0, met.1) (go (level_of level) refl (λ e. h (ap (λ (a : Noted). a.refusal) met.0 ∙ e)))
  where
    go : (l : Option Row) → level_of level ≡ l → ((noted level line (length notes)).refusal ≡ 0 → ⊥) → NotedNothing (noted level line (length notes)) notes (notes_after level line notes)
    go None e refused = rw e (record { alignment = refl; dissent = refl; kept = refl })
    go (Some row) e refused = by (eqb (frames_refusal row (length line) (length notes)) 0) refl
      where
        by : (t : Bool) → eqb (frames_refusal row (length line) (length notes)) 0 ≡ t → NotedNothing (noted level line (length notes)) notes (notes_after level line notes)
        by true t = absurd (refused (rw (e, t)))
        by false t = rw (e, t) (record { alignment = refl; dissent = refl; kept = refl })

pub swap-nothing : (level earlier tributary : ℕ) (line notes buffer : List ℕ) (answer : Swapped) (left : List ℕ)
    → swap.SwapMet level earlier tributary line notes buffer answer left → (answer.refusal ≡ 0 → ⊥) → SwappedNothing answer line left
swap-nothing level earlier tributary line notes buffer answer left met h = rw (met.0, met.1) (go (level_of level) refl (λ e. h (ap (λ (a : Swapped). a.refusal) met.0 ∙ e)))
  where
    go : (l : Option Row) → level_of level ≡ l → ((swap.swapped level earlier tributary (length line) notes (length buffer)).refusal ≡ 0 → ⊥)
        → SwappedNothing (swap.swapped level earlier tributary (length line) notes (length buffer)) line (swap.line_after level earlier tributary line notes buffer)
    go None e refused = rw e (record { digits = refl; kept = refl })
    go (Some row) e refused = by (eqb (swap.number_of row earlier tributary (length line) (length notes) (length buffer)) 0) refl
      where
        by : (t : Bool) → eqb (swap.number_of row earlier tributary (length line) (length notes) (length buffer)) 0 ≡ t
            → SwappedNothing (swap.swapped level earlier tributary (length line) notes (length buffer)) line (swap.line_after level earlier tributary line notes buffer)
        by true t = absurd (refused (rw (e, t)))
        by false t = rw (e, t) (record { digits = refl; kept = refl })

pub repair-nothing : (level earlier : ℕ) (national : Bool) (line : List ℕ) (answer : Repaired) (left : List ℕ) → repair.RepairMet level earlier national line answer left
    → (answer.refusal ≡ 0 → ⊥) → RepairedNothing answer line left
unfolding repair.changed
repair-nothing level earlier national line answer left met h = rw (met.0, met.1) (go (level_of level) refl (λ e. h (ap (λ (a : Repaired). a.refusal) met.0 ∙ e)))
  where
    go : (l : Option Row) → level_of level ≡ l → ((repair.repaired level earlier national line).refusal ≡ 0 → ⊥)
        → RepairedNothing (repair.repaired level earlier national line) line (repair.line_after level earlier national line)
    go None e refused = rw e (record { word = refl; control = refl; stuffing = refl; national = refl; kept = refl })
    go (Some row) e refused = by (eqb (repair.number_of row earlier (length line)) 0) refl
      where
        by : (t : Bool) → eqb (repair.number_of row earlier (length line)) 0 ≡ t
            → RepairedNothing (repair.repaired level earlier national line) line (repair.line_after level earlier national line)
        by true t = absurd (refused (rw (e, t)))
        by false t = rw (e, t) (record { word = refl; control = refl; stuffing = refl; national = refl; kept = refl })

-- ---- captures

pub write-nothing : (level : ℕ) (line label : List ℕ) (labelled : Bool) (file : List ℕ) (answer : Written) (left : List ℕ)
    → WriteMet level line label labelled file answer left → (answer.refusal ≡ 0 → ⊥) → WrittenNothing answer file left
write-nothing level line label labelled file answer left met h = rw (met.0, met.1) (go (level_of level) refl (λ e. h (ap (λ (a : Written). a.refusal) met.0 ∙ e)))
  where
    go : (l : Option Row) → level_of level ≡ l → ((written_of level line label labelled (length file)).refusal ≡ 0 → ⊥)
        → WrittenNothing (written_of level line label labelled (length file)) file (left_of level line label labelled file)
    go None e refused = rw e (record { bytes = refl; byte = refl; kept = refl })
    go (Some row) e refused = by (eqb (write_refusal row level line label labelled (length file)) 0) refl
      where
        by : (t : Bool) → eqb (write_refusal row level line label labelled (length file)) 0 ≡ t
            → WrittenNothing (written_of level line label labelled (length file)) file (left_of level line label labelled file)
        by true t = absurd (refused (rw (e, t)))
        by false t = rw (e, t) (record { bytes = refl; byte = refl; kept = refl })

abbrev Unread : Reading → Type 0
Unread r = (r.refusal ≡ 0 → ⊥) → ReadNothing r

-- any other run of tags and lengths, and a level or a line that is judged
unread-so : (refusal byte : ℕ) → ((refusal ≡ 9 → ⊥) → byte ≡ 0) → Unread (unread refusal byte)
unread-so refusal byte named h = record { level = refl; line = refl; labelled = refl; label = refl; byte = named }

nine : (byte : ℕ) → Unread (unread 9 byte)
nine byte = unread-so 9 byte (λ other. absurd (other refl))

fields-nothing : (file : List ℕ) → Unread (fields_of file)
unfolding fields_of after_line
fields-nothing file =
    cond-by Unread (field_at file 0 1 1 1)
    (cond-by Unread (field_at file 4 2 0 65535)
    (cond-by Unread (eqb (end_at file 4) (length file)) (λ h. absurd (h refl))
    (cond-by Unread (field_at file (end_at file 4) 3 0 32)
    (cond-by Unread (eqb (end_at file (end_at file 4)) (length file)) (λ h. absurd (h refl)) (nine (end_at file (end_at file 4)))) (nine (end_at file 4))))
    (nine 4))
    (nine 0)

pub read-nothing : (file : List ℕ) (answer : Reading) → ReadMet file answer → (answer.refusal ≡ 0 → ⊥) → ReadNothing answer
read-nothing file answer met h = rw met (go (eqb (fields_of file).refusal 0) refl (level_of (fields_of file).level) refl (λ e. h (ap (λ (a : Reading). a.refusal) met ∙ e)))
  where
    go : (t : Bool) → eqb (fields_of file).refusal 0 ≡ t → (l : Option Row) → level_of (fields_of file).level ≡ l → Unread (read_of file)
    go false x l y = rw x (fields-nothing file)
    go true x None y = rw (x, y) (unread-so 1 0 (λ _. refl))
    go true x (Some row) y = by (bad_line row (fields_of file).line.bytes) refl
      where
        by : (t : Bool) → bad_line row (fields_of file).line.bytes ≡ t → Unread (read_of file)
        by true z = rw (x, y, z) (unread-so 2 0 (λ _. refl))
        by false z = rw (x, y, z) (λ refused. absurd (refused (eqb-true (fields_of file).refusal 0 x)))

-- ---- comparing

-- the byte that a comparison names is the reader's, of the file that is at fault
abbrev ByteUnderNine : compared.Fault → Type 0
ByteUnderNine f = (f.refusal ≡ 9 → ⊥) → f.byte ≡ 0

-- refused by such a fault
refused-by : (f : compared.Fault) (lent : List ℕ) → ByteUnderNine f → ComparedNothing (comparing.refused_by f) lent lent
refused-by f lent named = record { sums = refl; all = refl; listed = refl; named = named; kept = refl }

fault-byte : (one other : List ℕ) → ByteUnderNine (comparing.fault_of (read_of one) (read_of other))
unfolding comparing.fault_of
fault-byte one other =
    cond-told ByteUnderNine (eqb (read_of one).refusal 0)
    (λ _. cond-told ByteUnderNine (eqb (read_of other).refusal 0)
    (λ _. cond-by ByteUnderNine (eqb (read_of one).level (read_of other).level)
    (cond-by ByteUnderNine (eqb (read_of one).line.bytes (read_of other).line.bytes) {a = comparing.fault_in 0 0 0} {b = comparing.fault_in 2 0 0} (λ _. refl) (λ _. refl))
    (λ _. refl))
    (λ refused. (read-nothing other (read_of other) refl (eqb-false (read_of other).refusal 0 refused)).byte))
    (λ refused. (read-nothing one (read_of one) refl (eqb-false (read_of one).refusal 0 refused)).byte)

pub compare-nothing : (one other lent : List ℕ) (answer : Compared) (left : List ℕ) → comparing.CompareMet one other lent answer left
    → (answer.refusal ≡ 0 → ⊥) → ComparedNothing answer lent left
unfolding comparing.compared_of comparing.listed_of counted_on
compare-nothing one other lent answer left met h =
    rw (met.0, met.1) (go (eqb f.refusal 0) refl (level_of (read_of one).level) refl (λ e. h (ap (λ (a : Compared). a.refusal) met.0 ∙ e)))
  where
    f : compared.Fault
    f = comparing.fault_of (read_of one) (read_of other)

    go : (t : Bool) → eqb f.refusal 0 ≡ t → (l : Option Row) → level_of (read_of one).level ≡ l → ((comparing.compared_of one other).refusal ≡ 0 → ⊥)
        → ComparedNothing (comparing.compared_of one other) lent (comparing.listed_of one other lent)
    go false t l e refused = rw t (refused-by f lent (fault-byte one other))
    go true t None e refused = rw (t, e) (refused-by (comparing.fault_in 1 0 0) lent (λ _. refl))
    go true t (Some row) e refused = absurd (refused (rw (t, e)))

pub lines-nothing : (level : ℕ) (one other lent : List ℕ) (answer : Compared) (left : List ℕ) → two-lines.LinesMet level one other lent answer left
    → (answer.refusal ≡ 0 → ⊥) → ComparedNothing answer lent left
unfolding two-lines.lines_of two-lines.lines_listed counted_on
lines-nothing level one other lent answer left met h = rw (met.0, met.1) (go (level_of level) refl (λ e. h (ap (λ (a : Compared). a.refusal) met.0 ∙ e)))
  where
    go : (l : Option Row) → level_of level ≡ l → ((two-lines.lines_of level one other).refusal ≡ 0 → ⊥)
        → ComparedNothing (two-lines.lines_of level one other) lent (two-lines.lines_listed level one other lent)
    go None e refused = rw e (refused-by (comparing.fault_in 1 0 0) lent (λ _. refl))
    go (Some row) e refused = by (eqb (two-lines.lines_refusal row (length one) (length other)) 0) refl
      where
        by : (t : Bool) → eqb (two-lines.lines_refusal row (length one) (length other)) 0 ≡ t
            → ComparedNothing (two-lines.lines_of level one other) lent (two-lines.lines_listed level one other lent)
        by true t = absurd (refused (rw (e, t)))
        by false t = rw (e, t) (refused-by (comparing.fault_in 2 0 0) lent (λ _. refl))

-- ---- digits carried

pub copy-nothing : (to : List ℕ) (at : ℕ) (from : List ℕ) (first count answer : ℕ) (left : List ℕ) → CopyMet to at from first count answer left
    → (answer ≡ 0 → ⊥) → left ≡ to
copy-nothing to at from first count answer left met h = by (copies to at from first count) refl
  where
    by : (t : Bool) → copies to at from first count ≡ t → left ≡ to
    by true t = absurd (h (met.refusal ∙ rw t))
    by false t = met.copied ∙ rw t

-- ---- the late line

pub late-nothing : (level earlier : ℕ) (line notes buffer : List ℕ) (answer : Counted) (left : List ℕ) → LateMet level earlier line notes buffer answer left
    → (answer.refusal ≡ 0 → ⊥) → CountedNothing answer line left
late-nothing level earlier line notes buffer answer left met h = rw (met.0, met.1) (go (level_of level) refl (λ e. h (ap (λ (a : Counted). a.refusal) met.0 ∙ e)))
  where
    go : (l : Option Row) → level_of level ≡ l → ((late_answer level earlier (length line) notes (length buffer)).refusal ≡ 0 → ⊥)
        → CountedNothing (late_answer level earlier (length line) notes (length buffer)) line (late_left level earlier line notes buffer)
    go None e refused = rw e (record { counts = refl; frame = λ five ten. refl; kept = refl })
    go (Some row) e refused = by (eqb f.refusal 0) refl
      where
        f : Fault
        f = send_fault_of row earlier (length line) notes (length buffer)

        by : (t : Bool) → eqb f.refusal 0 ≡ t
            → CountedNothing (late_answer level earlier (length line) notes (length buffer)) line (late_left level earlier line notes buffer)
        by true t = absurd (refused (rw (e, t)))
        by false t = rw (e, t) (record { counts = refl; frame = send-names row earlier (length line) notes (length buffer); kept = refl })

-- ---- 2048 kbit/s

pub build-nothing : (multiframe channels signalling spare : List ℕ) (answer : Built) (left : List ℕ) → BuildMet multiframe channels signalling spare answer left
    → (answer.refusal ≡ 0 → ⊥) → BuiltNothing answer multiframe left
build-nothing multiframe channels signalling spare answer left met h =
    by (lengths_right (length multiframe) (length channels) (length signalling) (length spare)) (eqb (first_silent signalling) 0) refl refl
  where
    refused : (b : Built) → answer ≡ b → b.refusal ≡ 0 → ⊥
    refused b e z = h (ap (λ (a : Built). a.refusal) e ∙ z)

    by : (a b : Bool) → lengths_right (length multiframe) (length channels) (length signalling) (length spare) ≡ a → eqb (first_silent signalling) 0 ≡ b
        → BuiltNothing answer multiframe left
    by false b x y = record { channel = λ _. ap (λ (a : Built). a.channel) met.0 ∙ rw x; kept = met.1 ∙ rw x }
    by true true x y = absurd (refused (built_of (length multiframe) (length channels) signalling (length spare)) met.0 (rw (x, y)))
    by true false x y = record { channel = λ other. absurd (other (ap (λ (a : Built). a.refusal) met.0 ∙ rw (x, y))); kept = met.1 ∙ rw (x, y) }

pub finder-nothing : (s : finder.State) (slice : List ℕ) (first count : ℕ) (answer : found.Fed) → finding.FeedMet s slice first count answer
    → (answer.refusal ≡ 0 → ⊥) → FoundNothing s answer
unfolding finding.feed_of
finder-nothing s slice first count answer met h = rw met (by (eqb (finding.refusal_of s (length slice) first count) 0) refl)
  where
    by : (t : Bool) → eqb (finding.refusal_of s (length slice) first count) 0 ≡ t → FoundNothing s (finding.feed_of s slice first count)
    by true t = absurd (h (ap (λ (a : found.Fed). a.refusal) met ∙ rw t))
    by false t = rw t (record { taken = refl; aligned = refl; state = refl })

-- ---- the rack

fed-nothing : (r : Record) (piece : List ℕ) (first count : ℕ) → ((fed_record r piece first count).refusal ≡ 0 → ⊥) → Nothing (state_from r) (fed_record r piece first count)
unfolding fed_by
fed-nothing r piece first count =
    cond-told (λ (f : Fed). (f.refusal ≡ 0 → ⊥) → Nothing (state_from r) f) (ltb 1 r.few || ltb 1 r.alarm)
    (λ _ h. record { taken = refl; ready = refl; alarm = refl; words = refl; state = refl }) (λ _. refused-nothing (state_from r) piece first count)

pub rack-nothing : (records : List Record) (line : ℕ) (piece : List ℕ) (first count returned : ℕ) (left : List Record) (answer : List ℕ)
    → rack.FeedMet records line piece first count returned left answer → (returned ≡ 0 → ⊥) → RackNothing records left answer
rack-nothing records line piece first count returned left answer met h = by (eqb (list_refusal (length records) line) 0) refl
  where
    r : Record
    r = rack.at records line

    f : Fed
    f = fed_record r piece first count

    alone : (f.refusal ≡ 0 → ⊥) → eqb (list_refusal (length records) line) 0 ≡ true → RackNothing records left answer
    alone refused t =
        let s = fed-nothing r piece first count refused in
        record {
          none = met.2 ∙ rw (t, s.taken, s.ready, s.alarm, s.words);
          kept = met.1 ∙ rw (t, ne_eqb f.refusal 0 refused) (set-get_or records line (record_of (fresh_state 0)));
        }

    by : (t : Bool) → eqb (list_refusal (length records) line) 0 ≡ t → RackNothing records left answer
    by false t = record { none = met.2 ∙ rw t; kept = met.1 ∙ rw t }
    by true t = alone (λ e. h (met.0 ∙ rw t e)) t
