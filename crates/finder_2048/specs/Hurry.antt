-- Digits in a hurry: what inner functions of the run promise. What is left to do after them is what was to do before.
use Rattle.std.specs.Prelude.{◌≡◌, List, [], ◌∷◌, ℕ, ◌+◌, ◌-◌, ◌≤◌, ◌<◌, min}
use Rattle.digits.specs.Runs.{run_of, piece_of}
use Rattle.finder_2048.specs.declared.Mode.TheVariants.{Hunting}
use Rattle.finder_2048.specs.declared.State.{State}
use Rattle.finder_2048.specs.Modes.{window_of, step_of, turned}
use Rattle.finder_2048.specs.Feed.{Valid}

-- a state that hunts after so many digits
unfoldable pub still_hunting : ℕ → ℕ → State
still_hunting w came = record { window = w; seen = min came 7; mode = Hunting; place = 0 }

-- the window that these digits make of a window
unfoldable pub window_over : ℕ → List ℕ → ℕ
window_over w [] = w
window_over w (d ∷ ds) = window_over (window_of w d) ds

-- from state s at digit p of a slice, of which the digits before `end` are to be taken, it went to state s' at digit at
pub record Hurried (slice : List ℕ) (end p : ℕ) (s : State) (at : ℕ) (s' : State) : Type 0 where
  pub valid : Valid s'
  pub from : p ≤ at
  pub before : at < end
  pub same : (taken : ℕ)
      → run_of step_of turned (piece_of slice p (end - p)) taken s ≡ run_of step_of turned (piece_of slice at (end - at)) (taken + (at - p)) s'
