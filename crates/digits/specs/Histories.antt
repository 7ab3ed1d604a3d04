-- Histories: the last digits that came, and words that have just come.
use Rattle.std.specs.Prelude.{◌≡◌, List, ℕ, ◌-◌, ◌≤◌, length, take, drop}

-- the last k digits of a history; the history as it was k digits ago
abbrev pub last_of : ℕ → List ℕ → List ℕ
last_of k ds = drop (length ds - k) ds

abbrev pub ago : ℕ → List ℕ → List ℕ
ago k ds = take (length ds - k) ds

-- these digits have just come: they are the last of the history
pub record Came (word ds : List ℕ) : Type 0 where
  pub enough : length word ≤ length ds
  pub last : last_of (length word) ds ≡ word
