-- What the inner functions keep while a line is repaired: up to some place it is done, and from there on it is as it came. The public call's definitions are
-- in specs/Repair.antt; these lie between them and the loops.
use Rattle.std.specs.Prelude.{◌≡◌, Bool, List, ◌∷◌, ℕ, ◌+◌, ◌*◌, ◌≤◌, ◌<◌, length, get_or}
use Rattle.digits.specs.Digits.{digits_of, Bytes}
use Rattle.table.specs.declared.Row.{Row}
use Rattle.levels.specs.declared.places.At.{At}
use Rattle.levels.specs.Table.{Shared}
use Rattle.levels.specs.Sizes.{frames_of}
use Rattle.reading.specs.Notes.{note_of, notes_of}
use Rattle.tally.specs.Tally.{sums_of}
use Rattle.repair.specs.Repair.{becomes, changes}

-- the place of a line at which a walk stands
abbrev pub place_of : Row → At → ℕ
place_of row at = at.frame * row.digits + (at.set * row.set + at.place)

-- a line of whole frames, at most 64
pub record Whole (row : Row) (line : List ℕ) : Type 0 where
  pub shared : Shared row
  pub frames : length line ≡ frames_of row (length line) * row.bytes
  pub few : frames_of row (length line) ≤ 64

-- the line that came as `old` is repaired up to place n, and what changed there is counted
pub record Mended (row : Row) (earlier : ℕ) (national : Bool) (old : List ℕ) (n : ℕ) (new sums : List ℕ) : Type 0 where
  pub whole : Whole row old
  pub kept : length new ≡ length old
  pub done : (p : ℕ) → p < n → get_or (digits_of new) p 0 ≡ becomes row earlier national old p
  pub rest : (p : ℕ) → n ≤ p → get_or (digits_of new) p 0 ≡ get_or (digits_of old) p 0
  pub counted : sums ≡ sums_of row (changes row earlier national old) n
  pub bytes : Bytes new

-- the notes that frame f acts on, as they are read from the line as it came
pub record Acts (row : Row) (earlier : ℕ) (old : List ℕ) (f preceding note : ℕ) : Type 0 where
  pub inside : f < frames_of row (length old)
  pub before : preceding ≡ get_or (earlier ∷ notes_of row (digits_of old) (frames_of row (length old))) f 0
  pub own : note ≡ note_of row (digits_of old) f

-- some line that came so is repaired up to place n
pub record Begun (row : Row) (national : Bool) (f preceding note n : ℕ) (line sums : List ℕ) : Type 0 where
  pub earlier : ℕ
  pub old : List ℕ
  pub acts : Acts row earlier old f preceding note
  pub mended : Mended row earlier national old n line sums

-- whatever line it was, repaired up to place n before, it is repaired up to place m now
abbrev pub Onward : Row → Bool → ℕ → ℕ → ℕ → ℕ → ℕ → List ℕ → List ℕ → List ℕ → List ℕ → Type 0
Onward row national f preceding note n m line sums left counted =
    (earlier : ℕ) (old : List ℕ) → Acts row earlier old f preceding note → Mended row earlier national old n line sums → Mended row earlier national old m left counted
