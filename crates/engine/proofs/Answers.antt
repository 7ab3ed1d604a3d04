-- No second answer: whatever meets the statement of one of the three calls is its one answer, and leaves the same slice.
use mathlib.Core.Path.{◌≡◌, sym, ◌∙◌}
use mathlib.Core.List.{List}
use Prim.Native.Nat.{ℕ}
use Rattle.engine.specs.Engine.{Answered, NotesRead, MultiplexMet, ReadNotesMet, ExtractMet}

pub one-multiplex : (level earlier : ℕ) (line notes buffer : List ℕ) (a b : Answered) (l m : List ℕ)
    → MultiplexMet level earlier line notes buffer a l → MultiplexMet level earlier line notes buffer b m → (a ≡ b) × (l ≡ m)
one-multiplex level earlier line notes buffer a b l m x y = (x.answered ∙ sym y.answered, x.written ∙ sym y.written)

pub one-reading : (level : ℕ) (line notes : List ℕ) (a b : NotesRead) (l m : List ℕ)
    → ReadNotesMet level line notes a l → ReadNotesMet level line notes b m → (a ≡ b) × (l ≡ m)
one-reading level line notes a b l m x y = (x.answered ∙ sym y.answered, x.written ∙ sym y.written)

pub one-extraction : (level earlier : ℕ) (line notes buffer : List ℕ) (a b : Answered) (l m : List ℕ)
    → ExtractMet level earlier line notes buffer a l → ExtractMet level earlier line notes buffer b m → (a ≡ b) × (l ≡ m)
one-extraction level earlier line notes buffer a b l m x y = (x.answered ∙ sym y.answered, x.written ∙ sym y.written)
