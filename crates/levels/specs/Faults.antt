-- What a call that goes by notes is judged by, and what it answers: multiplexing, and extracting by notes. Document 01, "Refusal numbers" and
-- "Multiplexing and demultiplexing from a known start"; document 02, requests 7, 10 and 14. A fault is a refusal number and the frame that it names; the
-- first that applies is answered.
use Rattle.std.specs.Prelude.{Bool, cond, not, ◌&&◌, List, [], ◌∷◌, ℕ, suc, ◌+◌, ◌-◌, ◌*◌, ◌/◌, ◌%◌, ◌^◌, eqb, ltb, leb, length, Result, Ok, Err}
use Rattle.table.specs.declared.Row.{Row}
use Rattle.refusal.specs.declared.Refusal.{Refusal}
use Rattle.refusal.specs.Refusal.{number_of}
use Rattle.levels.specs.declared.faults.Refused.{Refused}
use Rattle.table.specs.Table.{level_of}
use Rattle.levels.specs.Sizes.{on_level, size_refusal}
use Rattle.levels.specs.Places.{noted_of}
use Rattle.levels.specs.Order.{has_negative, counts_of}

-- the first note that meets a test, from 0; the number of notes where there is none
unfoldable pub first_with : (ℕ → Bool) → List ℕ → ℕ
first_with test [] = 0
first_with test (note ∷ notes) = cond (test note) 0 (suc (first_with test notes))

-- why a call is refused, as a number, and the frame that the refusal names; number 0 where nothing is at fault
pub record Fault : Type 0 where
  pub refusal : ℕ
  pub frame : ℕ

-- a call's answer as numbers: the refusal, 0 for none, the frame that it names, and the digits of each tributary
pub record Counted : Type 0 where
  pub refusal : ℕ
  pub frame : ℕ
  pub counts : List ℕ

-- a number that names a frame; "the named frame is 0 except under 5", and 10
abbrev pub fault : ℕ → ℕ → Fault
fault refusal frame = record { refusal = refusal; frame = frame }

-- the first of two faults that applies
abbrev pub or_else : Fault → Fault → Fault
or_else one other = cond (eqb one.refusal 0) other one

-- the fault that names the first frame whose note meets a test; none where no note does
abbrev pub naming : ℕ → (ℕ → Bool) → List ℕ → Fault
naming refusal test notes = cond (ltb (first_with test notes) (length notes)) (fault refusal (first_with test notes)) (fault 0 0)

-- 5: "level 2 or 3: a note has bit 6 or 7 set; the answer names the first such frame, from 0"; levels 12 and 14: "the votes in bits 0 to 3, the
-- rest zero (else 5)". Bits 4 and up are the service digits that a note has: a note at or over 2 to the 4 and their number has a bit that the
-- level has not (64 at levels 2 and 3, 16 at 12 and 14; none at level 4, which uses all eight)
abbrev pub overfull : Row → ℕ → Bool
overfull row note = leb (2 ^ (4 + noted_of row)) note

abbrev pub note_fault : Row → List ℕ → Fault
note_fault row notes = naming 5 (overfull row) notes

-- 10: multiplexing "at levels 2 to 4 now refuses with 10, after 5, naming the first such frame, a note whose national bits for that level are not
-- all 1": from bit 5 on, as many as the level has national digits (one at levels 2 and 3, three at 4; at 12 and 14 none, so that no note is at fault)
abbrev pub unset : Row → ℕ → Bool
unset row note = not (eqb (note / 2 ^ 5 % 2 ^ row.nationals) (2 ^ row.nationals - 1))

-- a note that has those bits, and no other
abbrev pub national_bits : Row → ℕ
national_bits row = 32 * (2 ^ row.nationals - 1)

abbrev pub national_fault : Row → List ℕ → Fault
national_fault row notes = naming 10 (unset row) notes

-- "the vote before frame 0 is a further input, over 15 refused with 5 naming frame 0, before the notes, and not looked at for levels 2 to 4"
abbrev pub bad_earlier : Row → ℕ → Bool
bad_earlier row earlier = has_negative row && ltb 15 earlier

abbrev pub earlier_fault : Row → ℕ → Fault
earlier_fault row earlier = cond (bad_earlier row earlier) (fault 5 0) (fault 0 0)

-- 2 to 5 in their order, for an earlier vote, a line of so many bytes, these notes and a buffer of so many bytes; 0 where none applies
unfoldable pub fault_of : Row → ℕ → ℕ → List ℕ → ℕ → Fault
fault_of row earlier line notes buffer =
    or_else (fault (size_refusal row line (length notes) buffer) 0) (or_else (earlier_fault row earlier) (note_fault row notes))

-- multiplexing's: the same, then 10
unfoldable pub send_fault_of : Row → ℕ → ℕ → List ℕ → ℕ → Fault
send_fault_of row earlier line notes buffer = or_else (fault_of row earlier line notes buffer) (national_fault row notes)

-- "all counts .. are 0"
abbrev pub refused_with : Fault → Counted
refused_with found = record { refusal = found.refusal; frame = found.frame; counts = 0 ∷ 0 ∷ 0 ∷ 0 ∷ [] }

-- accepted: the four digit counts
abbrev pub counted : Row → ℕ → List ℕ → Counted
counted row earlier notes = record { refusal = 0; frame = 0; counts = counts_of row earlier notes (length notes) }

-- the answer where a call is at fault so, or not
abbrev pub answer_by : Row → ℕ → List ℕ → Fault → Counted
answer_by row earlier notes found = cond (eqb found.refusal 0) (counted row earlier notes) (refused_with found)

-- a refusal that names no frame
abbrev pub naming_none : Refusal → Refused
naming_none refusal = record { refusal = refusal; frame = 0 }

-- the fault in what the code answers, and the numbers of such an answer
abbrev pub fault_by : Refused → Fault
fault_by refused = fault (number_of refused.refusal) refused.frame

abbrev pub fault_in : {A : Type 0} → Result A Refused → Fault
fault_in (Ok _) = fault 0 0
fault_in (Err refused) = fault_by refused

abbrev pub numbers_of : Result (List ℕ) Refused → Counted
numbers_of (Ok counts) = record { refusal = 0; frame = 0; counts = counts }
numbers_of (Err refused) = refused_with (fault_by refused)

-- what is left of the bytes lent for writing: new ones, or they as they were
abbrev pub left_by : Fault → List ℕ → List ℕ → List ℕ
left_by found new old = cond (eqb found.refusal 0) new old

-- the answer on a level's row, and for any level number: "1: level is not 2, 3 or 4", nor 12 nor 14. Of extraction, and of multiplexing
abbrev pub answer_on : Row → ℕ → ℕ → List ℕ → ℕ → Counted
answer_on row earlier line notes buffer = answer_by row earlier notes (fault_of row earlier line notes buffer)

abbrev pub answered : ℕ → ℕ → ℕ → List ℕ → ℕ → Counted
answered level earlier line notes buffer =
    on_level (level_of level) (λ (row : Row). answer_on row earlier line notes buffer) (refused_with (fault 1 0))

abbrev pub send_answer_on : Row → ℕ → ℕ → List ℕ → ℕ → Counted
send_answer_on row earlier line notes buffer = answer_by row earlier notes (send_fault_of row earlier line notes buffer)

abbrev pub send_answered : ℕ → ℕ → ℕ → List ℕ → ℕ → Counted
send_answered level earlier line notes buffer =
    on_level (level_of level) (λ (row : Row). send_answer_on row earlier line notes buffer) (refused_with (fault 1 0))
