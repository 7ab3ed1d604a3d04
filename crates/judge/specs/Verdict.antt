-- The verdict on a line: did the clock move, or the frame index? What the call answers, refused or not, for any input: for each tributary which of three readings
-- fit, how many of their digits are wrong, and how often its decision changed. It is lent nothing for writing.
use Rattle.std.specs.Prelude.{◌≡◌, Bool, cond, not, ◌&&◌, ◌||◌, List, [], ◌∷◌, ℕ, suc, ◌+◌, ◌-◌, ◌/◌, ◌%◌, ◌^◌, min, eqb, length, get_or, Result, Ok, Err}
use Rattle.digits.specs.Digits.{digits_of}
use Rattle.digits.specs.Sums.{sum_to}
use Rattle.table.specs.declared.Row.{Row}
use Rattle.table.specs.Table.{level_of}
use Rattle.levels.specs.Sizes.{on_level, bad_line, bad_buffer, quarter_of}
use Rattle.levels.specs.Faults.{bad_earlier}
use Rattle.refusal.specs.declared.Refusal.{Refusal}
use Rattle.refusal.specs.Refusal.{number_of as refusal_number}
use Rattle.judge.specs.declared.Judgement.{Judgement}
use Rattle.judge.specs.Readings.{majorities, read_by, none_stuffed, all_stuffed, own_votes, before_votes, after_votes}
use Rattle.judge.specs.Wrong.{wrong_in}

-- ---- the five numbers of a tributary

-- wrong digits of tributary j, read by these votes, against the digits of its quarter or the pattern
abbrev pub wrong_by : Row → List ℕ → ℕ → List ℕ → List ℕ → ℕ → ℕ
wrong_by row line pattern buffer votes j = wrong_in pattern (digits_of (quarter_of buffer j)) (read_by row line votes j)

-- "wrong digits read by its own frame, by the frame before, by the frame after (of the two at a border the fewer)"
unfoldable pub own_wrong : Row → ℕ → List ℕ → ℕ → List ℕ → ℕ → ℕ
own_wrong row earlier line pattern buffer j = wrong_by row line pattern buffer (own_votes earlier (majorities row line)) j

unfoldable pub before_wrong : Row → ℕ → List ℕ → ℕ → List ℕ → ℕ → ℕ
before_wrong row earlier line pattern buffer j =
    min (wrong_by row line pattern buffer (before_votes row earlier (majorities row line) none_stuffed) j)
    (wrong_by row line pattern buffer (before_votes row earlier (majorities row line) all_stuffed) j)

unfoldable pub after_wrong : Row → List ℕ → ℕ → List ℕ → ℕ → ℕ
after_wrong row line pattern buffer j =
    min (wrong_by row line pattern buffer (after_votes (majorities row line) none_stuffed) j) (wrong_by row line pattern buffer (after_votes (majorities row line) all_stuffed) j)

-- "A reading fits if it has none"; "which readings fit (1 own, 2 before, 4 after, added up)"
unfoldable pub fitting : ℕ → ℕ → ℕ → ℕ
fitting own before after = cond (eqb own 0) 1 0 + cond (eqb before 0) 2 0 + cond (eqb after 0) 4 0

-- tributary j's decision in frame f, 1 is "stuffed"
abbrev pub decided : List ℕ → ℕ → ℕ → ℕ
decided notes j f = get_or notes f 0 / 2 ^ j % 2

-- "in how many frames the decision differs from the frame before": the vote before frame 0 is no frame's
unfoldable pub changes_of : List ℕ → ℕ → ℕ
changes_of notes j = sum_to (length notes - 1) (λ (f : ℕ). cond (eqb (decided notes j (suc f)) (decided notes j f)) 0 1)

-- ---- the answer

-- of the four tributaries
abbrev pub four : (ℕ → ℕ) → List ℕ
four g = g 0 ∷ g 1 ∷ g 2 ∷ g 3 ∷ []

-- the call's answer as numbers: the refusal, 0 for none, and the five numbers of each tributary
pub record Judged : Type 0 where
  pub refusal : ℕ
  pub fits : List ℕ
  pub own : List ℕ
  pub before : List ℕ
  pub after : List ℕ
  pub changes : List ℕ

unfoldable pub judgement : Row → ℕ → List ℕ → ℕ → List ℕ → Judged
judgement row earlier line pattern buffer =
    record {
      refusal = 0;
      fits =
          four
          (λ (j : ℕ).
          fitting (own_wrong row earlier line pattern buffer j) (before_wrong row earlier line pattern buffer j) (after_wrong row line pattern buffer j));
      own = four (own_wrong row earlier line pattern buffer);
      before = four (before_wrong row earlier line pattern buffer);
      after = four (after_wrong row line pattern buffer);
      changes = four (changes_of (majorities row line));
    }

-- 13 for any pattern but 0, 15 and 23
abbrev pub bad_pattern : ℕ → Bool
bad_pattern pattern = not (eqb pattern 0 || (eqb pattern 15 || eqb pattern 23))

-- the first of 13, 2, 4 ("only with pattern 0") and 5 ("earlier vote") that applies, or 0, by the lengths of line and buffer
unfoldable pub number_of : Row → ℕ → ℕ → ℕ → ℕ → ℕ
number_of row earlier line pattern buffer =
    cond (bad_pattern pattern) 13
    (cond (bad_line row line) 2 (cond (eqb pattern 0 && bad_buffer row line buffer) 4 (cond (bad_earlier row earlier) 5 0)))

-- refused: all zeros
abbrev pub refused_with : ℕ → Judged
refused_with refusal =
    record {
      refusal = refusal;
      fits = four (λ (j : ℕ). 0);
      own = four (λ (j : ℕ). 0);
      before = four (λ (j : ℕ). 0);
      after = four (λ (j : ℕ). 0);
      changes = four (λ (j : ℕ). 0);
    }

-- the numbers of what the code answers, accepted or not
abbrev pub accepted : Judgement → Judged
accepted found =
    record { refusal = 0; fits = found.fits; own = found.own; before = found.before; after = found.after; changes = found.changes }

abbrev pub numbers_of : Result Judgement Refusal → Judged
numbers_of (Ok found) = accepted found
numbers_of (Err refusal) = refused_with (refusal_number refusal)

abbrev pub judged_on : Row → ℕ → List ℕ → ℕ → List ℕ → Judged
judged_on row earlier line pattern buffer =
    cond (eqb (number_of row earlier (length line) pattern (length buffer)) 0) (judgement row earlier line pattern buffer)
    (refused_with (number_of row earlier (length line) pattern (length buffer)))

abbrev pub judged : ℕ → ℕ → List ℕ → ℕ → List ℕ → Judged
judged level earlier line pattern buffer =
    on_level (level_of level) (λ (row : Row). judged_on row earlier line pattern buffer) (refused_with 1)

-- the whole statement of the call: its answer
abbrev pub JudgeMet : ℕ → ℕ → List ℕ → ℕ → List ℕ → Judged → Type 0
JudgeMet level earlier line pattern buffer answer = answer ≡ judged level earlier line pattern buffer
