-- A line that a right, a late or an early multiplexer made fits by the reading that goes with it, whatever demand 3 allows was damaged. So where a reading does not fit, no
-- such multiplexer made the line of these digits.
use Rattle.std.specs.Prelude.{Option, Some}
use mathlib.Core.Path.{◌≡◌, refl, sym, ◌∙◌, ap, subst}
use mathlib.Core.Logic.{◌≢◌}
use mathlib.Core.Bool.{Bool, cond, true, false}
use mathlib.Core.List.{List}
use Prim.Native.Nat.{ℕ, ◌*◌, ◌/◌, ◌%◌, ◌<◌}
use native.Mathlib.Omega.{arith}
use native.Mathlib.Nat.{zero-add, div-add-mod'}
use lib.ListN.{length, get_or, take, drop}
use borrow.Author.Tests.{le-ltb}
use Rattle.digits.specs.Digits.{digits_of, tab}
use Rattle.digits.proofs.Laws.{digits-length, tab-length, tab-at, tab-of}
use Rattle.table.specs.declared.Row.{Row}
use Rattle.table.specs.Table.{level_of}
use Rattle.levels.specs.Table.{Shared}
use Rattle.levels.specs.Sizes.{on_level, frames_of, quarter_of, Accepted}
use Rattle.levels.specs.Places.{kind_at}
use Rattle.levels.specs.Order.{stuffed, decisions, actions, count_of}
use Rattle.levels.proofs.Columns.{columns, frame-start}
use Rattle.levels.proofs.Counts.{count_room}
use Rattle.levels.specs.Line.{line_digit}
use Rattle.reading.specs.Notes.{note_of, notes_of}
use Rattle.extraction.specs.Quarters.{taken_to}
use Rattle.promises.specs.Damage.{Damage, line_digits}
use Rattle.promises.specs.Calls.{Lent, SendAccepted, sent_line, DamageAt}
use Rattle.promises.proofs.Accepted.{shared, send-level, send-sizes, send-vote, send-places, send-sound, send_line, tributary}
use Rattle.workbench.specs.Bench.{is_control}
use Rattle.judge.specs.Readings.{majorities, read_by}
use Rattle.judge.specs.Wrong.{due_at, wrong_in}
use Rattle.judge.specs.Verdict.{judgement, number_of}
use Rattle.judge_promises.specs.Verdicts.{Index, right, acts_on, acted_digit, acted_line, Made, MadeAt, AllAsSent, Question, verdict, JudgeAccepted, wrong_by, Fits}
use Rattle.judge_promises.proofs.Acted.{decision-said, read_back}
use Rattle.judge_promises.proofs.Readings.{Alike, acts-alike, tried, tried-bit, index-alike}
use Rattle.judge_promises.proofs.Fitting.{none_wrong, judge-level, none-fits}

-- on the level's row
module _ (level : ℕ) (row : Row) (e : level_of level ≡ Some row) (q : Question) (ok : JudgeAccepted level q) (index : Index) (t : ℕ → List ℕ) (made : Made row index q.earlier t q.line) where
  abbrev sh : Shared row
  sh = shared level row e

  abbrev notes : List ℕ
  notes = made.notes

  abbrev F : ℕ
  F = length notes

  abbrev ds : List ℕ
  ds = digits_of q.line

  abbrev votes : List ℕ
  votes = acts_on row index q.earlier notes made.unknown

  abbrev read : List ℕ
  read = majorities row q.line

  all-columns : 2 * length q.line ≡ F * columns row
  all-columns = omega (arith, made.damage.size, digits-length q.line, frame-start row sh 0 (omega arith) F)

  read-long : length read ≡ F
  read-long = tab-length (frames_of row (length q.line)) 0 (note_of row ds) ∙ sym made.frames

  module _ (j : ℕ) (hj : j < 4) where
    abbrev bit : Bool
    bit = stuffed made.unknown j

    abbrev tries : List ℕ
    tries = acts_on row index q.earlier read (tried bit)

    said : (f : ℕ) → f < F → decisions read j f ≡ decisions notes j f
    said f h = ap (λ (n : ℕ). decisions (notes_of row ds n) j f) (sym made.frames) ∙ decision-said row sh q.earlier notes votes t ds made.damage f j h hj

    alike : Alike row j F tries votes
    alike = index-alike row j q.earlier read notes read-long said (tried bit) made.unknown (tried-bit bit j hj) index

    came : read_by row q.line tries j ≡ take (count_of row (actions row (get_or votes 0 0) (drop 1 votes) j) F) (t j)
    unfolding read_by
    came =
        ap (λ (x : ℕ). taken_to row (get_or tries 0 0) (drop 1 tries) ds j x) all-columns
        ∙ read_back row sh q.earlier notes votes t ds made.damage made.room j hj (get_or tries 0 0) (drop 1 tries) (acts-alike row j F tries votes alike)

    made-on : AllAsSent q.pattern q.buffer t → Fits index (verdict level q) j
    made-on sent =
        none-fits level row e q ok index bit j hj
        (ap (wrong_in q.pattern (digits_of (quarter_of q.buffer j))) came
        ∙ none_wrong q.pattern (count_of row (actions row (get_or votes 0 0) (drop 1 votes) j) F) (digits_of (quarter_of q.buffer j)) (t j) (sent j hj)
        (omega (arith, count_room row sh j hj (actions row (get_or votes 0 0) (drop 1 votes) j) F, made.room j hj)))

-- a line that such a multiplexer made of what was sent fits by the reading that goes with it, for every tributary: with digits that are given, and with any that meet a
-- pattern's recurrence
pub made-fits : (level : ℕ) (q : Question) (index : Index) (t : ℕ → List ℕ) → JudgeAccepted level q → AllAsSent q.pattern q.buffer t → MadeAt level index q.earlier t q.line
    → (j : ℕ) → j < 4 → Fits index (verdict level q) j
made-fits level q index t ok sent made j hj =
    let on = judge-level level q ok in
    made-on level on.0 on.1 q ok index t (rw on.1 at made) j hj sent

-- so where one tributary does not fit by a reading, no multiplexer that goes with it made this line of what was sent; and where it fits by none, neither a right nor a
-- late nor an early one
pub not_made : (level : ℕ) (q : Question) (index : Index) (t : ℕ → List ℕ) (j : ℕ) → JudgeAccepted level q → AllAsSent q.pattern q.buffer t → j < 4
    → wrong_by index (verdict level q) j ≢ 0 → MadeAt level index q.earlier t q.line → ⊥
not_made level q index t j ok sent hj wrong made = wrong (made-fits level q index t ok sent made j hj).none_wrong

-- ---- the call's own line

-- one that acts on its own decisions is multiplexing's
right-line : (row : Row) (earlier : ℕ) (notes : List ℕ) (t : ℕ → List ℕ) → line_digits row earlier notes t (length notes) ≡ acted_line row earlier notes (acts_on row right earlier notes 0) t
unfolding acted_digit
right-line row earlier notes t =
    tab-of (line_digits row earlier notes t (length notes)) (length notes * row.digits) (acted_digit row earlier notes (acts_on row right earlier notes 0) t)
    (tab-length (length notes * row.digits) 0 (line_digit row earlier notes t))
    (λ p h. tab-at (length notes * row.digits) 0 (line_digit row earlier notes t) p h ∙ rw (zero-add p) (same (is_control (kind_at row p)) (line_digit row earlier notes t p)))
  where
    same : (c : Bool) (d : ℕ) → d ≡ cond c d d
    same true d = refl
    same false d = refl

-- what is asked of a send's line, as it came, and the digits that were sent
abbrev pub asked : ℕ → Lent → List ℕ → Question
asked earlier send line = record { earlier = earlier; line = line; pattern = 0; buffer = send.buffer }

module _ (level earlier : ℕ) (row : Row) (e : level_of level ≡ Some row) (send : Lent) (ok : SendAccepted level earlier send) (line : List ℕ)
    (damage : Damage row earlier send.notes (length send.notes) (digits_of (sent_line level earlier send)) (digits_of line)) where
  abbrev facts : Shared row
  facts = shared level row e

  abbrev sizes : Accepted row (length send.line) (length send.notes) (length send.buffer)
  sizes = send-sizes level earlier row e send ok

  long : length line ≡ length send.line
  long = omega (arith, damage.size, digits-length line, send-places level earlier row e send ok)

  no_number : number_of row earlier (length line) 0 (length send.buffer) ≡ 0
  unfolding number_of
  no_number =
      let whole : length send.line % row.bytes ≡ 0 = omega (arith, sizes.framed.frames, div-add-mod' (length send.line) row.bytes) in
      let fours : length send.buffer % 4 ≡ 0 = omega (arith, sizes.quarters) in
      let few = le-ltb 64 (frames_of row (length send.line)) sizes.framed.few in
      let room = le-ltb (8 * (length send.buffer / 4)) (frames_of row (length send.line) * row.room) sizes.room in
      rw (long, whole, few, fours, room, send-vote level earlier row e send ok)

  judge-accepted : JudgeAccepted level (asked earlier send line)
  unfolding judgement
  judge-accepted = rw (e, no_number)

  by_right : Made row right earlier (tributary level earlier row e send ok) line
  by_right =
      let as-made = send_line level earlier row e send ok ∙ right-line row earlier send.notes (tributary level earlier row e send ok) in
      record {
        notes = send.notes;
        unknown = 0;
        frames = sizes.framed.noted ∙ ap (frames_of row) (sym long);
        room = (send-sound level earlier row e send ok).room;
        damage = subst (λ (sent : List ℕ). Damage row earlier send.notes (length send.notes) sent (digits_of line)) as-made damage;
      }

damage-on : (l : Option Row) (row : Row) → l ≡ Some row → (earlier : ℕ) (notes sent line : List ℕ)
    → on_level l (λ (r : Row). Damage r earlier notes (length notes) (digits_of sent) (digits_of line)) ⊥ → Damage row earlier notes (length notes) (digits_of sent) (digits_of line)
damage-on l row e earlier notes sent line damaged = rw e at damaged

-- "A right multiplexer's line, with any damage that demand 3 allows, always fits by its own frame": the line that multiplexing left, as it came, is judged, and each tributary
-- fits by its own frame
pub sent-fits : (level earlier : ℕ) (send : Lent) (line : List ℕ) → SendAccepted level earlier send → DamageAt level earlier send.notes (sent_line level earlier send) line
    → JudgeAccepted level (asked earlier send line) × ((j : ℕ) → j < 4 → Fits right (verdict level (asked earlier send line)) j)
unfolding due_at
sent-fits level earlier send line ok damaged =
    let on = send-level level earlier send ok in
    let row = on.0 in
    let damage = damage-on (level_of level) row on.1 earlier send.notes (sent_line level earlier send) line damaged in
    let accepted = judge-accepted level earlier row on.1 send ok line damage in
    let given = tributary level earlier row on.1 send ok in
    let made = by_right level earlier row on.1 send ok line damage in
    (accepted, λ j hj. made-on level row on.1 (asked earlier send line) accepted right given made j hj (λ k hk i low h. refl))
