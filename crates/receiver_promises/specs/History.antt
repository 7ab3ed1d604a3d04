-- Histories: the digits that came since reset, the first one first, and what the receiver's state is after them.
-- The theorems of proofs/Traces.antt, proofs/Pieces.antt and proofs/Alignment.antt are stated in these words.
use Rattle.std.specs.Prelude.{◌≡◌, Bool, cond, false, List, [], ◌∷◌, ℕ, ◌+◌, ◌-◌, ◌≤◌, length}
use Rattle.digits.specs.Digits.{written}
use Rattle.digits.specs.Histories.{last_of, ago}
use Rattle.digits.specs.Runs as runs
use Rattle.table.specs.declared.Row.{Row}
use Rattle.receiver.specs.declared.State.{State}
use Rattle.receiver.specs.declared.Fed.{Fed}
use Rattle.modes.specs.Modes.{good, tested_at}
use Rattle.pieces.specs.Frame.{holding, ready_of}
use Rattle.receiver.specs.Feed.{core_of, after_of, fresh_state}

-- the state that these digits make of a state, whatever calls they came in
abbrev pub heard : Row → State → List ℕ → State
heard row s ds = runs.heard (after_of row) s ds

-- a call stops after a digit that completes a frame: of the states before and after it, a frame is ready in the second
abbrev pub ready_at : Row → State → State → Bool
ready_at row s s' = ready_of row (core_of s')

-- how many words these digits test: each adds 1, or nothing
unfoldable pub tested_by : Row → State → List ℕ → ℕ
tested_by row s [] = 0
tested_by row s (d ∷ ds) = tested_at row (core_of s) + tested_by row (after_of row s d) ds

-- whether a frame is handed over at the last of these digits
abbrev pub ready_after : Row → State → List ℕ → Bool
ready_after row s ds = ready_of row (core_of (heard row s ds))

-- the state after a history, from reset on
abbrev pub since : Row → ℕ → List ℕ → State
since row level ds = heard row (fresh_state level) ds

-- the word has just come: its L digits are the last L of the history
pub record WordCame (row : Row) (ds : List ℕ) : Type 0 where
  pub enough : row.len ≤ length ds
  pub last : last_of row.len ds ≡ written row.len row.word

-- N digits at whose end a word is due, and the last L digits are not the word
pub record Missed (row : Row) (s : State) (ds : List ℕ) : Type 0 where
  pub size : length ds ≡ row.digits
  pub bad : good row (heard row s ds).window ≡ false

-- the words of a frame whose last digit came now, and of the two frames before it: N digits apart
pub record ThreeWords (row : Row) (ds : List ℕ) : Type 0 where
  pub third : WordCame row (ago (row.digits - row.len) ds)
  pub second : WordCame row (ago (row.digits - row.len + row.digits) ds)
  pub first : WordCame row (ago (row.digits - row.len + (row.digits + row.digits)) ds)

-- "the N digits as received from its word on, with later bytes zero": the N digits received last, where a frame is ready
pub record Handed (row : Row) (ds frame : List ℕ) : Type 0 where
  pub came : row.digits ≤ length ds
  pub is : frame ≡ holding (last_of row.digits ds)

-- "An empty piece takes 0 and changes nothing": no digit taken, no frame ready, no word tested, the state as it was
abbrev pub Unmoved : State → Fed → Type 0
Unmoved s fed = (fed.taken ≡ 0) × (fed.ready ≡ false) × (fed.words ≡ 0) × (fed.state ≡ s)

-- a piece and then the next, as one call would answer: a frame that is ready in the first stops it there
abbrev pub joined : Fed → Fed → Fed
joined one two =
    cond one.ready one
    (record {
      refusal = two.refusal;
      taken = one.taken + two.taken;
      ready = two.ready;
      alarm = two.alarm;
      words = one.words + two.words;
      state = two.state;
    })
