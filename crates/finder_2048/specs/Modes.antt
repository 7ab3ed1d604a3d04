-- The table of modes. Document 02, request 3: "Frames are found after a good word, a second digit of 1 one frame later, and a good word after
-- that, and lost after three wrong words in a row (G.706); if either check fails, the hunt goes on with the next digit and the window kept."
--
-- Places are counted from a word's last digit, which is 0. A frame has 256 digits, so the second digit of the next frame's byte 0 is 250, and
-- the last digit of the next word, two frames on, is 512.
--
-- | mode                     | after a digit                                                                                       |
-- | hunting                  | good, and at least seven digits came: word found, place 0. Else stay                                |
-- | word found               | place goes up by 1; at 250: the digit is 1, second digit seen; else hunting                         |
-- | second digit seen        | place goes up by 1; at 512: good, aligned with 0 missed, place 0; else hunting                      |
-- | aligned, m words missed  | place goes up by 1; at 512: good, 0 missed, place 0; else m+1 missed, place 0, but hunting if m+1 = 3 |
use Rattle.std.specs.Prelude.{Bool, cond, true, false, not, List, [], ◌∷◌, ℕ, ◌+◌, ◌*◌, ◌%◌, ◌^◌, eqb, ltb, leb}
use Rattle.finder_2048.specs.declared.Mode.{Mode}
use Rattle.finder_2048.specs.declared.Mode.TheVariants.{Hunting, WordFound, SecondSeen, Aligned}
use Rattle.finder_2048.specs.declared.State.{State}

abbrev pub hunting : Mode → Bool
hunting Hunting = true
hunting WordFound = false
hunting SecondSeen = false
hunting (Aligned m) = false

abbrev pub aligned : Mode → Bool
aligned Hunting = false
aligned WordFound = false
aligned SecondSeen = false
aligned (Aligned m) = true

-- a number missed is part of the mode aligned
abbrev pub missed : Mode → ℕ
missed Hunting = 0
missed WordFound = 0
missed SecondSeen = 0
missed (Aligned m) = m

-- "byte 0 of even frames ends in 0011011"
abbrev pub word : List ℕ
word = 0 ∷ 0 ∷ 1 ∷ 1 ∷ 0 ∷ 1 ∷ 1 ∷ []

-- the same as a number of seven digits, the last worth 1
abbrev pub word_number : ℕ
word_number = 27

-- the last seven digits: a number, the newest worth 1
unfoldable pub window_of : ℕ → ℕ → ℕ
window_of w d = (w * 2 + d) % 2 ^ 7

-- how many digits came since reset, stopping at seven
unfoldable pub seen_of : ℕ → ℕ
seen_of seen = cond (ltb seen 7) (seen + 1) seen

-- a good word: the last seven digits are the word
unfoldable pub good : ℕ → Bool
good w = eqb w word_number

-- the place at which a mode's rule looks, outside hunting
abbrev pub check_at : Mode → ℕ
check_at Hunting = 0
check_at WordFound = 250
check_at SecondSeen = 512
check_at (Aligned m) = 512

-- the digits at which a mode's rule looks: hunting, where at least seven digits came; else where the place comes to the check
unfoldable pub asks : ℕ → Mode → ℕ → Bool
asks seen mode place = cond (hunting mode) (leb 7 seen) (eqb (place + 1) (check_at mode))

-- what it looks for: a second digit of 1 after a word was found, else a good word
abbrev pub passes : Mode → ℕ → ℕ → Bool
passes Hunting w d = good w
passes WordFound w d = eqb d 1
passes SecondSeen w d = good w
passes (Aligned m) w d = good w

-- the rows of the table at such a digit: the mode if the check passes, and else
abbrev pub judged : Mode → Bool → Mode
judged Hunting g = cond g WordFound Hunting
judged WordFound g = cond g SecondSeen Hunting
judged SecondSeen g = cond g (Aligned 0) Hunting
judged (Aligned m) g = cond g (Aligned 0) (cond (eqb (m + 1) 3) Hunting (Aligned (m + 1)))

-- the place then: the second digit has the only check within the two frames
abbrev pub place_then : Mode → ℕ
place_then Hunting = 0
place_then WordFound = 0
place_then SecondSeen = 250
place_then (Aligned m) = 0

-- at any other digit the mode stays; while hunting the place is 0, else it goes up by 1
unfoldable pub place_after : Mode → ℕ → ℕ
place_after mode place = cond (hunting mode) 0 (place + 1)

-- after a digit d: w are the last seven digits and seen digits came, this one included
unfoldable pub after_digit : ℕ → ℕ → Mode → ℕ → ℕ → State
after_digit w seen mode place d =
    cond (asks seen mode place)
    (record { window = w; seen = seen; mode = judged mode (passes mode w d); place = place_then (judged mode (passes mode w d)) })
    (record { window = w; seen = seen; mode = mode; place = place_after mode place })

unfoldable pub step_of : State → ℕ → State
step_of s d = after_digit (window_of s.window d) (seen_of s.seen) s.mode s.place d

-- the digit at which alignment is found or lost: aligned before it or after it, and not both
abbrev pub differ : Bool → Bool → Bool
differ true b = not b
differ false b = b

abbrev pub turned : State → State → Bool
turned s s' = differ (aligned s.mode) (aligned s'.mode)
