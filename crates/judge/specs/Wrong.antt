-- The wrong digits of a reading. What was sent is known as digits, or as a test pattern: "the pseudo-random sequences of O.150 that test sets send, 2^15 − 1
-- (stages 14 and 15 fed back) and 2^23 − 1 (18 and 23), both sent inverted".
use Rattle.std.specs.Prelude.{cond, List, ℕ, ◌+◌, ◌-◌, eqb, length, get_or}
use Rattle.digits.specs.Sums.{sum_to}

-- a pattern is known by its last stage, 15 or 23, which is fed back with this one; pattern 0 is none
abbrev pub stage_of : ℕ → ℕ
stage_of pattern = cond (eqb pattern 15) 14 18

-- digit i of a pattern, made of the digits before it: fed back is the sum of two stages without carry, 1 where they differ, and the pattern is sent inverted
abbrev pub made_from : ℕ → List ℕ → ℕ → ℕ
made_from pattern ds i = cond (eqb (get_or ds (i - stage_of pattern) 0) (get_or ds (i - pattern) 0)) 1 0

-- what digit i of a reading is to be: "the digit sent at its number"; with a pattern, "what the recurrence makes of the 15 (or 23) digits read before it"
unfoldable pub due_at : ℕ → List ℕ → List ℕ → ℕ → ℕ
due_at pattern sent ds i = cond (eqb pattern 0) (get_or sent i 0) (made_from pattern ds i)

abbrev pub wrong_at : ℕ → List ℕ → List ℕ → ℕ → ℕ
wrong_at pattern sent ds i = cond (eqb (get_or ds i 0) (due_at pattern sent ds i)) 0 1

-- how many of a reading's digits are wrong: of all, or, with a pattern, of those "after the first 15 (or 23)"
unfoldable pub wrong_in : ℕ → List ℕ → List ℕ → ℕ
wrong_in pattern sent ds = sum_to (length ds - pattern) (λ (k : ℕ). wrong_at pattern sent ds (pattern + k))
