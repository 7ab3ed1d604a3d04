-- Digits by the word: a number's digits, and what a writer has put out.
use Rattle.std.specs.Prelude.{◌≡◌, List, [], ◌∷◌, ◌++◌, ℕ, ◌+◌, ◌*◌, ◌-◌, ◌/◌, ◌%◌, ◌^◌, ◌<◌, ◌≤◌, take, drop, replicate}
use Rattle.digits.specs.Digits.{digits_of, written}
use Rattle.words.specs.declared.Writer.{Writer}

-- the four bytes of a number of 32 digits
abbrev pub four : ℕ → List ℕ
four w = w / 2 ^ 24 % 256 ∷ w / 2 ^ 16 % 256 ∷ w / 2 ^ 8 % 256 ∷ w % 256 ∷ []

-- the digits held are as many as said, fewer than 32
pub record Ready (fill held : ℕ) : Type 0 where
  pub few : fill < 32
  pub fits : held < 2 ^ fill

-- what a writer that began at byte `start` has put out: the digits of the bytes stored, then those held
unfoldable pub out_from : ℕ → List ℕ → Writer → List ℕ
out_from start s w = digits_of (drop start (take w.at s)) ++ written w.fill w.held

-- n digits more, these; bytes before the writer and after it stay
pub record Appended (old new : List ℕ) (w r : Writer) (n : ℕ) (ds : List ℕ) : Type 0 where
  pub ready : Ready r.fill r.held
  pub forward : w.at ≤ r.at
  pub place : 8 * r.at + r.fill ≡ 8 * w.at + (w.fill + n)
  pub out : (start : ℕ) → start ≤ w.at → out_from start new r ≡ out_from start old w ++ ds
  pub front : take w.at new ≡ take w.at old
  pub back : drop r.at new ≡ drop r.at old

-- the zeros up to the end of the byte in which so many digits end
abbrev pub zeros_after : ℕ → ℕ
zeros_after fill = (8 - fill % 8) % 8

-- zeros up to the end of the byte, and nothing is held any more
pub record Finished (old new : List ℕ) (w r : Writer) : Type 0 where
  pub appended : Appended old new w r (zeros_after w.fill) (replicate (zeros_after w.fill) 0)
  pub none_held : r.fill ≡ 0
