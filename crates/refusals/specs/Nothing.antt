-- Demand 1: "A refusal writes nothing and hands a state back unchanged." Document 01: "Under a refusal nothing lent is written, all counts and digits taken are 0, ..
-- and the named frame is 0 except under 5", and 10. What each call answers and leaves where it is refused: lent is what was lent for writing, left what is there at the end.
-- (The receiver's is crate receiver, specs/Nothing.antt.)
use Rattle.std.specs.Prelude.{◌≡◌, false, List, [], ◌∷◌, ℕ, replicate}
use Rattle.levels.specs.Faults.{Counted}
use Rattle.reading.specs.Reading.{Noted}
use Rattle.swap.specs.Swap.{Swapped}
use Rattle.repair.specs.Repair.{Repaired}
use Rattle.differing.specs.declared.Compared.{Compared}
use Rattle.captures.specs.Captures.{Written}
use Rattle.captures.specs.declared.Reading.{Reading}
use Rattle.captures.specs.Captures.{nowhere}
use Rattle.multiframe.specs.Calls.{Built}
use Rattle.finder_2048.specs.declared.State as finder
use Rattle.finder_2048.specs.declared.Fed as found
use Rattle.records.specs.declared.record.Record.{Record}

abbrev pub four_zeros : List ℕ
four_zeros = 0 ∷ 0 ∷ 0 ∷ 0 ∷ []

-- multiplexing its line, late or not; extraction its buffer
pub record CountedNothing (answer : Counted) (lent left : List ℕ) : Type 0 where
  pub counts : answer.counts ≡ four_zeros
  pub frame : (answer.refusal ≡ 5 → ⊥) → (answer.refusal ≡ 10 → ⊥) → answer.frame ≡ 0
  pub kept : left ≡ lent

-- reading its notes
pub record NotedNothing (answer : Noted) (lent left : List ℕ) : Type 0 where
  pub alignment : answer.alignment ≡ 0
  pub dissent : answer.dissent ≡ four_zeros
  pub kept : left ≡ lent

-- swapping and repairing their line
pub record SwappedNothing (answer : Swapped) (lent left : List ℕ) : Type 0 where
  pub digits : answer.digits ≡ 0
  pub kept : left ≡ lent

pub record RepairedNothing (answer : Repaired) (lent left : List ℕ) : Type 0 where
  pub word : answer.word ≡ 0
  pub control : answer.control ≡ four_zeros
  pub stuffing : answer.stuffing ≡ four_zeros
  pub national : answer.national ≡ 0
  pub kept : left ≡ lent

-- comparing its list of places: a byte is named under 9 alone
pub record ComparedNothing (answer : Compared) (lent left : List ℕ) : Type 0 where
  pub sums : answer.sums ≡ replicate 15 0
  pub all : answer.all ≡ 0
  pub listed : answer.listed ≡ 0
  pub named : (answer.refusal ≡ 9 → ⊥) → answer.byte ≡ 0
  pub kept : left ≡ lent

-- the writer its file; the reader, which writes nothing, names a byte under 9 alone
pub record WrittenNothing (answer : Written) (lent left : List ℕ) : Type 0 where
  pub bytes : answer.bytes ≡ 0
  pub byte : answer.byte ≡ 0
  pub kept : left ≡ lent

pub record ReadNothing (answer : Reading) : Type 0 where
  pub level : answer.level ≡ 0
  pub line : answer.line ≡ nowhere
  pub labelled : answer.labelled ≡ false
  pub label : answer.label ≡ nowhere
  pub byte : (answer.refusal ≡ 9 → ⊥) → answer.byte ≡ 0

-- building its multiframe: a channel is named under 11 alone
pub record BuiltNothing (answer : Built) (lent left : List ℕ) : Type 0 where
  pub channel : (answer.refusal ≡ 11 → ⊥) → answer.channel ≡ 0
  pub kept : left ≡ lent

-- the finder
pub record FoundNothing (s : finder.State) (answer : found.Fed) : Type 0 where
  pub taken : answer.taken ≡ 0
  pub aligned : answer.aligned ≡ false
  pub state : answer.state ≡ s

-- a feed of the rack: digits taken, frame ready, alarm, words tested
pub record RackNothing (lent left : List Record) (answer : List ℕ) : Type 0 where
  pub none : answer ≡ four_zeros
  pub kept : left ≡ lent
