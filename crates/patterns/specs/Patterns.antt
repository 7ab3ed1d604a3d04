-- The test patterns: "the pseudo-random sequences of O.150 that test sets send, 2^15 − 1 (stages 14 and 15 fed back) and 2^23 − 1 (18 and 23), both sent
-- inverted". Digits are held in a window: the 23 last ones as a number, the newest worth 1.
use Rattle.std.specs.Prelude.{◌≡◌, ◌≢◌, cond, List, ℕ, zero, suc, ◌+◌, ◌-◌, ◌*◌, ◌/◌, ◌%◌, ◌^◌, eqb}
use Rattle.digits.specs.Digits.{tab}
use Rattle.slips.specs.Slips.{lent_from}

-- a pattern that is not refused and not 0
abbrev pub OneOfTwo : ℕ → Type 0
OneOfTwo pattern = pattern ≢ 15 → pattern ≡ 23

-- a pattern is known by its last stage, 15 or 23, which is fed back with this one
abbrev pub stage_of : ℕ → ℕ
stage_of pattern = cond (eqb pattern 15) 14 18

-- the digit that lies so many before the one that comes next
abbrev pub digit_ago : ℕ → ℕ → ℕ
digit_ago s window = window / 2 ^ (s - 1) % 2

-- the digit that comes next: fed back is the sum of the two stages without carry, 1 where they differ, and the pattern is sent inverted
unfoldable pub made_of : ℕ → ℕ → ℕ
made_of pattern window = cond (eqb (digit_ago (stage_of pattern) window) (digit_ago pattern window)) 1 0

-- the window after one digit more
unfoldable pub pushed : ℕ → ℕ → ℕ
pushed window d = (window * 2 + d) % 2 ^ 23

-- the window moved on by n digits of the pattern
unfoldable pub window_after : ℕ → ℕ → ℕ → ℕ
window_after pattern window zero = window
window_after pattern window (suc n) = pushed (window_after pattern window n) (made_of pattern (window_after pattern window n))

-- what was sent: the 1024 digits from a window on, whose first has number `at`. The window goes along with the lanes, a frame at a time, so that a frame
-- asks for no other
unfoldable pub pattern_digits : ℕ → ℕ → List ℕ
pattern_digits pattern window = tab 1024 0 (λ (i : ℕ). window_after pattern window i / 2 ^ 22 % 2)

abbrev pub pattern_from : ℕ → ℕ → ℕ → ℕ → ℕ
pattern_from pattern window at = lent_from at (pattern_digits pattern window)
