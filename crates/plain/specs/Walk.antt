-- What each of the plain engine's three calls alone carries along the places of a line. Their specification is specs/Engine.antt of crate
-- engine, and what they share specs/Walk.antt there; these lie between it and the loops.
use Rattle.std.specs.Prelude.{◌≡◌, Bool, cond, true, false, List, [], ◌∷◌, ℕ, ◌+◌, ◌*◌, ◌≤◌, ◌<◌, min, ltb, length, get_or}
use Rattle.table.specs.declared.Row.{Row}
use Rattle.engine.specs.declared.frame.Place.{Place}
use Rattle.engine.specs.declared.frame.Place.TheVariants.{Alignment, Service, Fixed, Control, Negative, Positive, Tributary}
use Rattle.engine.specs.Engine.{digit_at, sent_at, votes_to, alarm_in, national_in, taken_to}
use Rattle.engine.specs.Walk.{Bytes}

-- frame f lies in a line of so many bytes, which is short
pub record Within (row : Row) (line f : ℕ) : Type 0 where
  pub inside : f * row.digits + row.digits ≤ 8 * line
  pub short : 8 * line ≤ 262144

-- the line before place p: the places behind are sent
pub record Sent (row : Row) (earlier : ℕ) (notes buffer : List ℕ) (p n : ℕ) (line : List ℕ) : Type 0 where
  pub bytes : Bytes line
  pub size : length line ≡ n
  pub done : (k : ℕ) → k < p → digit_at line k ≡ sent_at row earlier notes buffer k

-- the one place whose digits vote
abbrev pub is_control : Place → Bool
is_control Alignment = false
is_control Service = false
is_control Fixed = false
is_control Control = true
is_control Negative = false
is_control Positive = false
is_control Tributary = false

-- the control digits of frame f among its first n places: 4 * v + j counts those of tributary j that are v
pub record Voted (row : Row) (line : List ℕ) (f n : ℕ) (votes : List ℕ) : Type 0 where
  pub eight : length votes ≡ 8
  pub each : (j v : ℕ) → j < 4 → v < 2 → get_or votes (4 * v + j) 0 ≡ votes_to row line f j v n

-- the decisions by these votes, as bits 0 to 3; the digits of the minorities
unfoldable pub decisions_of : List ℕ → ℕ
decisions_of votes =
    cond (ltb (get_or votes 0 0) (get_or votes 4 0)) 1 0
    + 2 * cond (ltb (get_or votes 1 0) (get_or votes 5 0)) 1 0
    + 4 * cond (ltb (get_or votes 2 0) (get_or votes 6 0)) 1 0
    + 8 * cond (ltb (get_or votes 3 0) (get_or votes 7 0)) 1 0

unfoldable pub minorities_of : List ℕ → List ℕ
minorities_of votes =
    min (get_or votes 0 0) (get_or votes 4 0)
    ∷ min (get_or votes 1 0) (get_or votes 5 0)
    ∷ min (get_or votes 2 0) (get_or votes 6 0)
    ∷ min (get_or votes 3 0) (get_or votes 7 0)
    ∷ []

-- the service digits of frame f, as bits 4 to 7
unfoldable pub services_in : Row → List ℕ → ℕ → ℕ
services_in row line f =
    16 * alarm_in row line f + 32 * national_in row line f 0 + 64 * national_in row line f 1 + 128 * national_in row line f 2

-- four counts with four more
abbrev pub four_sums : List ℕ → List ℕ → List ℕ
four_sums a b = (get_or a 0 0 + get_or b 0 0) ∷ (get_or a 1 0 + get_or b 1 0) ∷ (get_or a 2 0 + get_or b 2 0) ∷ (get_or a 3 0 + get_or b 3 0) ∷ []

-- the buffer before place p of a line, its quarters q bytes each: the tributaries' digits so far, and zeros
pub record Taken (row : Row) (earlier : ℕ) (notes line : List ℕ) (q p : ℕ) (buffer : List ℕ) : Type 0 where
  pub bytes : Bytes buffer
  pub size : length buffer ≡ 4 * q
  pub done : (j i : ℕ) → j < 4 → i < 8 * q → digit_at buffer (8 * (j * q) + i) ≡ get_or (taken_to row earlier notes line j p) i 0
