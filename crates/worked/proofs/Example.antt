-- The example holds, by computation; that the line is damaged no more than is allowed, and that reading returns the send, by the theorems of demand 3.
use mathlib.Core.Path.{◌≡◌, refl}
use mathlib.Core.List.{[], ◌∷◌}
use native.Mathlib.Omega.{arith}
use Rattle.digits.specs.Digits.{digits_of, bytes_of, tab, differing}
use Rattle.digits.specs.Sums.{sum_to}
use Rattle.digits.proofs.Laws.{digits-binary}
use Rattle.table.specs.Table.{row2, level_of}
use Rattle.levels.specs.Sizes.{frames_refusal, size_refusal}
use Rattle.levels.specs.Places.{first_set, middle_set, last_set, kind_of, pos_of}
use Rattle.levels.specs.Order.{action_of, carries, before, places_of, count_of}
use Rattle.levels.specs.Vote.{group_of, votes_for, vote_by}
use Rattle.levels.proofs.Rows.{shared2}
use Rattle.levels.specs.Line.{line_digit}
use Rattle.levels.specs.Faults.{first_with, fault_of, send_fault_of}
use Rattle.reading.specs.Notes.{vote_at, service_at, note_of}
use Rattle.extraction.specs.Quarters.{taken_to, quarter_from, quarters_from}
use Rattle.promises.specs.Damage.{allowed}
use Rattle.promises.specs.Calls.{SendAccepted, sent_line, outcome, LentAt, DamageAt}
use Rattle.promises.specs.Border.{spoilt, early}
use Rattle.promises.proofs.Calls.{send-returned}
use Rattle.promises.proofs.Border.{all-allowed}
use Rattle.worked.specs.Example.{example_send, example_line, example_damaged, example_read, example_outcome, Example}

example-leaves : sent_line 2 0 example_send ≡ example_line
unfolding level_of send_fault_of fault_of frames_refusal size_refusal first_with bytes_of tab line_digit before carries action_of pos_of kind_of first_set middle_set last_set digits_of example_line
example-leaves = refl

example-spoilt : spoilt row2 0 (0x21 ∷ []) (early row2) 1 (digits_of example_line) ≡ digits_of example_damaged
unfolding tab action_of pos_of kind_of first_set middle_set last_set digits_of example_line example_damaged
example-spoilt = refl

example-accepted : SendAccepted 2 0 example_send
unfolding level_of send_fault_of fault_of frames_refusal size_refusal first_with
example-accepted = refl

example-seventeen : differing (digits_of example_line) (digits_of example_damaged) ≡ 17
unfolding differing digits_of example_line example_damaged
example-seventeen = refl

example-damaged : DamageAt 2 0 example_send.notes (sent_line 2 0 example_send) example_damaged
unfolding level_of
example-damaged = rw (example-leaves, ← example-spoilt) (all-allowed row2 shared2 0 (0x21 ∷ []) 1 (digits_of example_line) (digits-binary example_line))

example-read : outcome 2 0 example_read ≡ example_outcome
unfolding level_of frames_refusal size_refusal first_with fault_of note_of vote_at service_at vote_by votes_for group_of count_of sum_to quarters_from
    quarter_from taken_to places_of carries action_of pos_of kind_of first_set middle_set last_set tab bytes_of digits_of example_damaged
example-read = refl

example-lent : LentAt 2 example_send example_read
unfolding level_of
example-lent = record { noted = refl; quarters = refl; room = omega arith }

pub example : Example
example =
    record {
      accepted = example-accepted;
      leaves = example-leaves;
      damaged = example-damaged;
      seventeen = example-seventeen;
      returned = send-returned 2 0 example_send example_read example-accepted example-lent example-damaged;
      answers = example-read;
    }
