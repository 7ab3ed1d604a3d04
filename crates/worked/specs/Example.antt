-- An example for demand 3: a line with every kind of damage that is allowed, at once, and what reading it answers.
use Rattle.std.specs.Prelude.{◌≡◌, List, [], ◌∷◌, ◌++◌, ℕ, replicate}
use Rattle.digits.specs.Digits.{digits_of, differing}
use Rattle.promises.specs.Together.{Outcome}
use Rattle.promises.specs.Calls.{Lent, SendAccepted, sent_line, outcome, DamageAt, SendReturned}

-- one frame at 8448 kbit/s, stuffed for tributary 1, whose digit 154 is 1, all others 0: the line that is left, and that line damaged in every
-- way that is allowed at once. The word, the remote alarm digit and the national digit are inverted, the first control digit of each of the
-- four groups (0x08 is sent there, 0x07 comes) and the stuffing digit (0x88 is sent, 0x08 comes: digit 154 stands four places on)
abbrev pub example_send : Lent
example_send = record { line = replicate 106 0; notes = 0x21 ∷ []; buffer = replicate 19 0 ++ (0x20 ∷ replicate 84 0) }

unfoldable pub example_line : List ℕ
example_line = 0xF4 ∷ 0x10 ∷ (replicate 24 0 ++ (0x08 ∷ (replicate 26 0 ++ (0x80 ∷ (replicate 25 0 ++ (0x08 ∷ (0x88 ∷ replicate 25 0)))))))

unfoldable pub example_damaged : List ℕ
example_damaged = 0x0B ∷ 0xE0 ∷ (replicate 24 0 ++ (0x07 ∷ (replicate 26 0 ++ (0x80 ∷ (replicate 25 0 ++ (0x08 ∷ (0x08 ∷ replicate 25 0)))))))

-- the damaged line is read into notes and a buffer that hold something else
abbrev pub example_read : Lent
example_read = record { line = example_damaged; notes = 0xFF ∷ []; buffer = replicate 104 0xFF }

-- what reading it answers and leaves
abbrev pub example_outcome : Outcome
example_outcome =
    record {
      refusal = 0;
      frame = 0;
      counts = 205 ∷ 206 ∷ 206 ∷ 206 ∷ [];
      alignment = 10;
      dissent = 1 ∷ 1 ∷ 1 ∷ 1 ∷ [];
      notes = 0x11 ∷ [];
      buffer = example_send.buffer;
    }

-- ten digits of the word, two service digits, four control digits and a stuffing digit differ: all the send's decision leaves free. The
-- reading counts the ten, and a dissenting digit of each tributary; its note has the send's decision, and the service digits as they came; its buffer is the send's
pub record Example : Type 0 where
  pub accepted : SendAccepted 2 0 example_send
  pub leaves : sent_line 2 0 example_send ≡ example_line
  pub damaged : DamageAt 2 0 example_send.notes (sent_line 2 0 example_send) example_damaged
  pub seventeen : differing (digits_of example_line) (digits_of example_damaged) ≡ 17
  pub returned : SendReturned 2 0 example_send example_read
  pub answers : outcome 2 0 example_read ≡ example_outcome
