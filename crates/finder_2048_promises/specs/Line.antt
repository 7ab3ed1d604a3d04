-- A line of correct frames, begun anywhere: the word ends byte 0 of every even frame, and in the frames between the second digit of byte 0 is 1.
use Rattle.std.specs.Prelude.{◌≡◌, cond, List, ℕ, ◌+◌, ◌-◌, ◌%◌, ◌≤◌, ◌<◌, eqb, length, get_or, take, drop}
use Rattle.digits.specs.Digits.{tab, Binary}
use Rattle.finder_2048.specs.declared.Mode.TheVariants.{Aligned}
use Rattle.finder_2048.specs.declared.State.{State}
use Rattle.finder_2048.specs.Modes.{word}

-- digit i of the line stands at this place of an even frame and the odd frame after it, 512 digits together, where the line's first digit
-- stands at place o
abbrev pub in_frames : ℕ → ℕ → ℕ
in_frames o i = (o + i) % 512

-- correct frames in which no seven digits in a row other than the true words equal the word. Of all other digits nothing is asked; a word cut
-- by the line's first or last digit is asked for so far as it is there
pub record Line (o : ℕ) (ds : List ℕ) : Type 0 where
  pub binary : Binary ds
  pub words : (i : ℕ) → i < length ds → 1 ≤ in_frames o i → in_frames o i < 8 → get_or ds i 0 ≡ get_or word (in_frames o i - 1) 0
  pub second_digits : (i : ℕ) → i < length ds → in_frames o i ≡ 257 → get_or ds i 0 ≡ 1
  pub no_others : (i : ℕ) → i + 7 ≤ length ds → take 7 (drop i ds) ≡ word → in_frames o i ≡ 1

-- the true place after k digits of the line: 0 where the last of them is a word's last digit, place 7 of its frame
unfoldable pub true_place : ℕ → ℕ → ℕ
true_place o k = (o + k + 504) % 512

-- aligned at this place, and no word is missed
pub record AlignedAt (at : ℕ) (s : State) : Type 0 where
  pub mode : s.mode ≡ Aligned 0
  pub place : s.place ≡ at

-- such a line, of any length and begun anywhere: the words, and 1 at every other place. proofs/Ones.antt
abbrev pub ones_at : ℕ → ℕ
ones_at p = cond (eqb p 1) 0 (cond (eqb p 2) 0 (cond (eqb p 5) 0 1))

abbrev pub ones_line : ℕ → ℕ → List ℕ
ones_line o n = tab n 0 (λ i. ones_at (in_frames o i))
