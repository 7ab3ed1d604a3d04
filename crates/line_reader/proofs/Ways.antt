-- The three ways of a step, by the place and the line that it is taken from: a digit, past the last digit, a line that is
-- too long. Both the code's returns and the walk go by them.
use mathlib.Core.Path.{◌≡◌}
use mathlib.Core.Bool.{or-true}
use mathlib.Core.List.{List}
use Prim.Native.Nat.{ℕ, ◌*◌, ◌≤◌, ◌<◌}
use borrow.Author.Tests.{lt-ltb, le-ltb, le-leb, lt-leb}
use lib.ListN.{length}
use Rattle.line_reader.specs.Step.{has_ended, step_at, ending, giving}

module _ (line : List ℕ) (place : ℕ) where
  pub gives : length line ≤ 65536 → place < 8 * length line → step_at line place ≡ giving line place
  unfolding step_at has_ended
  gives fits within = rw (lt-leb (8 * length line) place within, le-ltb 65536 (length line) fits)

  pub past-last : 8 * length line ≤ place → step_at line place ≡ ending place
  unfolding step_at has_ended
  past-last past = rw (le-leb (8 * length line) place past)

  pub over-long : 65536 < length line → step_at line place ≡ ending place
  unfolding step_at has_ended
  over-long long = rw (lt-ltb 65536 (length line) long, or-true)
