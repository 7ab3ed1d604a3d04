-- The table of modes. Document 01, "Finding frames in a stream": what a digit does to all of the state but the frame in hand.
--
-- | mode              | after a digit                                                                                     |
-- | hunting           | good, and at least L digits came: one found, place 0. Else stay                                   |
-- | one found         | place goes up by 1; at N: good, two found, place 0; else hunting                                  |
-- | two found         | place goes up by 1; at N: good, aligned with 0 missed, place 0; else hunting                      |
-- | aligned, m missed | place goes up by 1; at N: good, 0 missed, place 0; else m+1 missed, place 0, but hunting if m+1 = 4 |
use Rattle.std.specs.Prelude.{◌≡◌, Bool, cond, true, false, ℕ, ◌+◌, ◌*◌, ◌%◌, ◌^◌, ◌<◌, ◌≤◌, eqb, ltb, leb}
use Rattle.table.specs.declared.Row.{Row}
use Rattle.modes.specs.declared.Mode.{Mode}
use Rattle.modes.specs.declared.Mode.TheVariants.{Hunting, OneFound, TwoFound, Aligned}
use Rattle.modes.specs.declared.Core.{Core}

abbrev pub hunting : Mode → Bool
hunting Hunting = true
hunting OneFound = false
hunting TwoFound = false
hunting (Aligned m) = false

-- a number missed is part of the mode aligned
abbrev pub missed : Mode → ℕ
missed Hunting = 0
missed OneFound = 0
missed TwoFound = 0
missed (Aligned m) = m

-- "the last L digits": a number of L digits, the newest worth 1
unfoldable pub window_of : Row → ℕ → ℕ → ℕ
window_of row w d = (w * 2 + d) % 2 ^ row.len

-- "how many digits came since reset (stopping at L)"
unfoldable pub seen_of : Row → ℕ → ℕ
seen_of row seen = cond (ltb seen row.len) (seen + 1) seen

-- "Good" means that the last L digits are the word. Any wrong digit makes a word not good.
unfoldable pub good : Row → ℕ → Bool
good row w = eqb w row.word

-- the digits at which a mode's rule asks for good: hunting, where at least L digits came; else where the place comes to N
unfoldable pub asks : Row → ℕ → Mode → ℕ → Bool
asks row seen mode place = cond (hunting mode) (leb row.len seen) (eqb (place + 1) row.digits)

-- "Words tested": 1 at a digit at which the rule of the mode, as it is before the digit, asks for good; 0 at any other
unfoldable pub tested_at : Row → Core → ℕ
tested_at row c = cond (asks row (seen_of row c.seen) c.mode c.place) 1 0

-- the rows of the table at such a digit: the mode if the word is good, and else. The place is then 0
abbrev pub judged : Mode → Bool → Mode
judged Hunting g = cond g OneFound Hunting
judged OneFound g = cond g TwoFound Hunting
judged TwoFound g = cond g (Aligned 0) Hunting
judged (Aligned m) g = cond g (Aligned 0) (cond (eqb (m + 1) 4) Hunting (Aligned (m + 1)))

-- at any other digit the mode stays; "while hunting the place is 0", else the place goes up by 1
unfoldable pub place_after : Mode → ℕ → ℕ
place_after mode place = cond (hunting mode) 0 (place + 1)

-- after a digit: w are the last L digits and seen digits came, this one included
unfoldable pub after_digit : Row → ℕ → ℕ → Mode → ℕ → Core
after_digit row w seen mode place =
    cond (asks row seen mode place)
    (record { window = w; seen = seen; mode = judged mode (good row w); place = 0 })
    (record { window = w; seen = seen; mode = mode; place = place_after mode place })

unfoldable pub step_of : Row → Core → ℕ → Core
step_of row c d = after_digit row (window_of row c.window d) (seen_of row c.seen) c.mode c.place

-- what validity says, item by item: crates/receiver/proofs/Validity.antt shows that it is refusal 6 not given
pub record Valid (row : Row) (c : Core) : Type 0 where
  pub window : c.window < 2 ^ row.len
  pub seen : c.seen ≤ row.len
  pub missed : missed c.mode ≤ 3
  pub place : c.place < row.digits
  pub rests : hunting c.mode ≡ true → c.place ≡ 0
  pub came : hunting c.mode ≡ false → row.len ≤ c.seen
