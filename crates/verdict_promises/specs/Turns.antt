-- Feeds in turn: a state is carried on over the runs of a recording.
use Rattle.std.specs.Prelude.{◌≡◌, List, [], ◌∷◌, ◌++◌, ℕ, ◌*◌, ◌%◌, ◌<◌, length, get_or}
use Rattle.table.specs.declared.Row.{Row}
use Rattle.verdict_blocks.specs.Readings.{majorities}
use Rattle.verdict.specs.Feed.{fed_state}
use Rattle.verdict_states.specs.States.{State}

-- two states that are one: in everything that a feed looks at, that an answer tells and that a state's numbers hold, for the four tributaries and the sixteen blocks
pub record Same (s t : State) : Type 0 where
  pub level : s.level ≡ t.level
  pub pattern : s.pattern ≡ t.pattern
  pub came : s.came ≡ t.came
  pub older : s.older ≡ t.older
  pub last : s.last ≡ t.last
  pub older_all : s.older_all ≡ t.older_all
  pub last_all : s.last_all ≡ t.last_all
  pub changes : (j : ℕ) → j < 4 → s.changes j ≡ t.changes j
  pub blocks : (b : ℕ) → b < 16 → s.blocks b ≡ t.blocks b

-- the vote of the frame that comes next: that of the next run's first frame, or behind the last run what is told
abbrev pub coming_of : Row → List (List ℕ) → ℕ → ℕ
coming_of row [] next = next
coming_of row (run ∷ runs) next = get_or (majorities row run) 0 0 % 16

-- the runs of a recording, fed in turn
unfoldable pub fed_in_turn : Row → State → List (List ℕ) → ℕ → (ℕ → ℕ → ℕ) → State
fed_in_turn row s [] next lent = s
fed_in_turn row s (run ∷ runs) next lent = fed_in_turn row (fed_state row s run (coming_of row runs next) lent) runs next lent

-- the recording as one
unfoldable pub joined : List (List ℕ) → List ℕ
joined [] = []
joined (run ∷ runs) = run ++ joined runs

-- a run of whole frames, one at least
pub record Whole (row : Row) (run : List ℕ) : Type 0 where
  pub frames : ℕ
  pub some : 0 < frames
  pub bytes : length run ≡ frames * row.bytes

pub data AllWhole (row : Row) : List (List ℕ) → Type 0 where
  no_more : AllWhole row []
  one_more : {run : List ℕ} {runs : List (List ℕ)} → Whole row run → AllWhole row runs → AllWhole row (run ∷ runs)
