-- Four writers, each in its quarter of one buffer: how many digits more have room, and what they have put out.
use Rattle.std.specs.Prelude.{◌≡◌, ◌≢◌, List, ◌++◌, ℕ, zero, suc, ◌+◌, ◌*◌, ◌^◌, ◌<◌, ◌≤◌, length, take, drop}
use Rattle.digits.specs.Digits.{written}
use Rattle.words.specs.declared.Writer.{Writer}
use Rattle.words.specs.Words.{Ready, out_from}
use Rattle.unweave.specs.declared.Writers.{Writers}
use Rattle.unweave.specs.declared.Columns.{Columns}
use Rattle.unweave.specs.Lanes.{run_digits}

-- quarter j (from 0) of a buffer, of q bytes
abbrev pub part_of : ℕ → List ℕ → ℕ → List ℕ
part_of q buffer j = take q (drop (j * q) buffer)

-- the writer of tributary j (from 0)
abbrev pub writer_of : Writers → ℕ → Writer
writer_of w zero = w.a
writer_of w (suc zero) = w.b
writer_of w (suc (suc zero)) = w.c
writer_of w (suc (suc (suc j))) = w.d

-- tributary j's number (from 0) of four, and that each has at most n digits
abbrev pub number_of : Columns → ℕ → ℕ
number_of x zero = x.a
number_of x (suc zero) = x.b
number_of x (suc (suc zero)) = x.c
number_of x (suc (suc (suc j))) = x.d

abbrev pub Below : ℕ → Columns → Type 0
Below n x = (j : ℕ) → j < 4 → number_of x j < 2 ^ n

-- the four numbers are each tributary's digits of n columns from place p on
pub record Numbered (ds : List ℕ) (p n : ℕ) (x : Columns) : Type 0 where
  pub below : Below n x
  pub digits : (j : ℕ) → j < 4 → written n (number_of x j) ≡ run_digits ds p n j

-- a writer in a quarter of q bytes, with room for n digits more
pub record Within (q n : ℕ) (w : Writer) : Type 0 where
  pub ready : Ready w.fill w.held
  pub room : 8 * w.at + (w.fill + n) ≤ 8 * q

-- so each of the four, tributary j for n j digits
abbrev pub Roomy : ℕ → (ℕ → ℕ) → Writers → Type 0
Roomy q n w = (j : ℕ) → j < 4 → Within q (n j) (writer_of w j)

-- what a run of n columns from place p on asks: a line that has them, and room for n digits more of each tributary
pub record RunAsked (line : List ℕ) (p : ℕ) (buffer : List ℕ) (q : ℕ) (w : Writers) (n : ℕ) : Type 0 where
  pub inside : p + 4 * n ≤ 8 * length line
  pub small : p + 4 * n < 2 ^ 31
  pub quarters : 4 * q ≤ length buffer
  pub roomy : Roomy q (λ (j : ℕ). n) w

-- a writer has put out these digits more
pub record Moved (w r : Writer) (ds : List ℕ) : Type 0 where
  pub ready : Ready r.fill r.held
  pub place : 8 * r.at + r.fill ≡ 8 * w.at + (w.fill + length ds)

-- digits ds more in quarter j, and the other quarters are as they were
pub record Put (q j : ℕ) (old new : List ℕ) (w r : Writer) (ds : List ℕ) : Type 0 where
  pub moved : Moved w r ds
  pub out : out_from 0 (part_of q new j) r ≡ out_from 0 (part_of q old j) w ++ ds
  pub others : (k : ℕ) → k < 4 → k ≢ j → part_of q new k ≡ part_of q old k

-- digits more in each quarter: those of tributary j are `more j`
pub record Grown (q : ℕ) (old new : List ℕ) (w r : Writers) (more : ℕ → List ℕ) : Type 0 where
  pub moved : (j : ℕ) → j < 4 → Moved (writer_of w j) (writer_of r j) (more j)
  pub out : (j : ℕ) → j < 4 → out_from 0 (part_of q new j) (writer_of r j) ≡ out_from 0 (part_of q old j) (writer_of w j) ++ more j
