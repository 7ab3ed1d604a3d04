-- Digits carried from slice to slice: which slices have so many, and what stands in one after others were put into it. `CopyMet` is the whole statement of
-- `copy_digits`.
use Rattle.std.specs.Prelude.{◌≡◌, Bool, cond, ◌&&◌, List, ℕ, ◌+◌, ◌*◌, leb, length, take, drop}
use Rattle.std.proofs.lemmas.List.Edits.{sets}
use Rattle.digits.specs.Digits.{digits_of, bytes_of}
use Rattle.words.specs.declared.Writer.{Writer}
use Rattle.words.specs.Words.{Ready, out_from}

-- count digits of these bytes, digit `first` and on
abbrev pub digits_from : List ℕ → ℕ → ℕ → List ℕ
digits_from bytes first count = take count (drop first (digits_of bytes))

-- whether there are so many
unfoldable pub has_digits : List ℕ → ℕ → ℕ → Bool
has_digits bytes first count = leb (first + count) (8 * length bytes)

-- the bytes of `to` with these digits at digit `at` and on; every other digit stays
unfoldable pub put_into : List ℕ → ℕ → List ℕ → List ℕ
put_into to at ds = bytes_of (length to) (sets (digits_of to) at ds)

-- both slices have the digits that are asked for
unfoldable pub copies : List ℕ → ℕ → List ℕ → ℕ → ℕ → Bool
copies to at from first count = has_digits to at count && has_digits from first count

-- the answer, and what is left in `to`: refused, it is as it was
pub record CopyMet (to : List ℕ) (at : ℕ) (from : List ℕ) (first count answer : ℕ) (left : List ℕ) : Type 0 where
  pub refusal : answer ≡ cond (copies to at from first count) 0 7
  pub copied : left ≡ cond (copies to at from first count) (put_into to at (digits_from from first count)) to

-- ---- between the call and its functions

-- a writer that goes on at digit `at`: what it has put out are the digits before it
pub record Begun (to : List ℕ) (at : ℕ) (w : Writer) : Type 0 where
  pub ready : Ready w.fill w.held
  pub place : 8 * w.at + w.fill ≡ at
  pub out : out_from 0 to w ≡ take at (digits_of to)
