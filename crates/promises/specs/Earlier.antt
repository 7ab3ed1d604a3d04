-- "the vote before frame 0 is a further input, .. not looked at for levels 2 to 4" (document 02, request 10): there multiplexing, extraction and the two calls
-- in turn answer and leave the same whatever vote they are given, and demand 3 holds with a vote of its own for each call. proofs/Earlier.antt has the proofs.
use Rattle.std.specs.Prelude.{◌≡◌, ◌≢◌, ℕ, ◌<◌, List, length, get_or}
use Rattle.digits.specs.Digits.{digits_of}
use Rattle.levels.specs.Faults.{answered, send_answered}
use Rattle.extraction.specs.Extract.{buffer_after}
use Rattle.promises.specs.Calls.{Lent, SendAccepted, sent_line, outcome, ReadAccepted, read_dissent, LentFor, SendsSame, SendReturned, ReadsSame}
use Rattle.promises.specs.Plain.{Numbers, Changed, controls_differing, SameOutside}

-- a call with the vote x and with the vote y: what multiplexing answers and leaves, what extraction does, and what the reading does
pub record NotLookedAt (level x y : ℕ) (c : Lent) : Type 0 where
  pub send_answer : send_answered level x (length c.line) c.notes (length c.buffer) ≡ send_answered level y (length c.line) c.notes (length c.buffer)
  pub send_line : sent_line level x c ≡ sent_line level y c
  pub extract_answer : answered level x (length c.line) c.notes (length c.buffer) ≡ answered level y (length c.line) c.notes (length c.buffer)
  pub extract_buffer : buffer_after level x c.line c.notes c.buffer ≡ buffer_after level y c.line c.notes c.buffer
  pub reading : outcome level x c ≡ outcome level y c

-- demand 3 at such a level: the sends, the readings, and what is said of them, each with a vote of its own
pub record AnyVotes (level : ℕ) (l : Numbers) : Type 0 where
  pub same : (x y z : ℕ) (a b : Lent) (received other : List ℕ) → SendAccepted level x a → SendAccepted level y b → Changed level x l a received
      → Changed level y l b other → received ≡ other → SendsSame level z a b
  pub returned : (x z : ℕ) (send read : Lent) → SendAccepted level x send → LentFor l.n send read → Changed level x l send read.line
      → SendReturned level z send read
  pub dissent : (x z : ℕ) (send read : Lent) → SendAccepted level x send → LentFor l.n send read → Changed level x l send read.line → (j : ℕ) → j < 4
      → get_or (read_dissent level z read) j 0 ≡ controls_differing l (length send.notes) (digits_of (sent_line level x send)) (digits_of read.line) j
  pub others : (x z j k : ℕ) (a b : Lent) → ReadAccepted level x a → LentFor l.n a b → length a.line ≡ length b.line → SameOutside j a.line b.line
      → k < 4 → k ≢ j → ReadsSame level z k a b
