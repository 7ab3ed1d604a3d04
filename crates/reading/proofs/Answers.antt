-- No second answer: whatever meets the statement of the call is the one answer, and leaves the same notes.
use mathlib.Core.Path.{◌≡◌}
use mathlib.Core.List.{List}
use Prim.Native.Nat.{ℕ}
use contract.Lifetimes.{Lfts}
use denote.Triple.Clauses.{AtExit}
use borrow.Fn.World.{ArgsD, ResD}
use Rattle.reading.specs.Reading.{Noted, numbers_of, ReadNotesMet}
use Rattle.reading.specs.contracts.read_notes.{signature, ended}
use Rattle.reading.proofs.read_notes.Reads.{Asked, Learnt}

pub no-second-answer : (level : ℕ) (line notes : List ℕ) (r s : Noted) (n m : List ℕ) → ReadNotesMet level line notes r n → ReadNotesMet level line notes s m
    → (r ≡ s) × (n ≡ m)
no-second-answer level line notes r s n m p q = (cc, cc)

-- and what the call ensures is that statement
pub read-notes-met : (κs : Lfts 2) (a : ArgsD signature κs) (r : ResD signature κs) (e : AtExit ended κs) → Learnt κs a r e
    → ReadNotesMet a.0 a.1.0.now a.1.1.0.now (numbers_of r) e.1.1.0.now
read-notes-met κs a r e met = met

-- and it asks nothing of its caller
pub read-notes-asks-nothing : (κs : Lfts 2) (a : ArgsD signature κs) → Asked κs a
read-notes-asks-nothing κs a = tt
