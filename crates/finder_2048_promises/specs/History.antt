-- Histories: the digits that came since reset, the first one first, and what they say of alignment found and lost; and calls in turn.
use Rattle.std.specs.Prelude.{◌≡◌, false, List, [], ◌∷◌, ◌++◌, ℕ, ◌*◌, ◌<◌, length}
use Rattle.digits.specs.Runs.{heard, Run, Piece}
use Rattle.digits.specs.Histories.{ago, Came}
use Rattle.finder_2048.specs.declared.State.{State}
use Rattle.finder_2048.specs.Modes.{word, good, aligned, differ, step_of}
use Rattle.finder_2048.specs.Feed.{fresh_state, feed_of}

-- the state after a history, from reset on
abbrev pub since : List ℕ → State
since ds = heard step_of fresh_state ds

-- "found after a good word, a second digit of 1 one frame later, and a good word after that": the last word's last digit is the last of the
-- history, the first word's came 512 digits ago, and the second digit 250 digits after that, 262 ago
pub record Found (ds : List ℕ) : Type 0 where
  pub second_word : Came word ds
  pub second_digit : Came (1 ∷ []) (ago 262 ds)
  pub first_word : Came word (ago 512 ds)

-- "lost after three wrong words in a row": where a word was due now, 512 and 1024 digits ago, none came
abbrev pub Lost : List ℕ → Type 0
Lost ds = (j : ℕ) → j < 3 → Came word (ago (512 * j) ds) → ⊥

-- the same word by word: none came now, nor a frame of 512 digits before, nor two before
pub record ThreeWrong (ds : List ℕ) : Type 0 where
  pub third : Came word ds → ⊥
  pub second : Came word (ago 512 ds) → ⊥
  pub first : Came word (ago 1024 ds) → ⊥

-- 512 digits at whose end a word is due, and the last seven are not the word
pub record Missed (s : State) (es : List ℕ) (d : ℕ) : Type 0 where
  pub size : length es ≡ 511
  pub bad : good (heard step_of s (es ++ (d ∷ []))).window ≡ false

-- a call as a run: it stopped where it says that alignment is no longer what it was
abbrev pub call_of : State → Piece → Run State
call_of s p =
    let f = feed_of s p.slice p.first p.count in
    record { taken = f.taken; stopped = differ (aligned s.mode) (aligned f.state.mode); state = f.state }
