-- A receiver's state, and the answer of a piece, as numbers. The definitions of specs/Feed.antt say what feeding is.
use Rattle.std.specs.Prelude.{cond, ◌||◌, List, [], ◌∷◌, ℕ, ◌+◌, ◌-◌, eqb, leb, ltb, get_or}
use Rattle.digits.specs.Digits.{is_yes}
use Rattle.modes.specs.declared.Mode.{Mode}
use Rattle.modes.specs.declared.Mode.TheVariants.{Hunting, OneFound, TwoFound, Aligned}
use Rattle.receiver.specs.declared.State.{State}
use Rattle.receiver.specs.declared.Fed.{Fed}
use Rattle.pieces.specs.declared.alarm.Stretch.{Stretch}
use Rattle.receiver.specs.Feed.{refused, feed_of}

-- mode: 0 hunting, 1 one found, 2 two found, 3 + m aligned with m missed
abbrev pub mode_number : Mode → ℕ
mode_number Hunting = 0
mode_number OneFound = 1
mode_number TwoFound = 2
mode_number (Aligned m) = 3 + m

-- the mode of a number; a number over 6 is a mode with too many missed, which is refused with 6
unfoldable pub mode_of : ℕ → Mode
mode_of n = cond (eqb n 0) Hunting (cond (eqb n 1) OneFound (cond (eqb n 2) TwoFound (cond (leb n 6) (Aligned (n - 3)) (Aligned 4))))

-- state: level, window, digits seen, mode, place, then the stretch's digits, its zeros, 1 if the stretch before had few zeros, 1 if the alarm
-- stands; the frame in hand beside it
abbrev pub stretch_from : List ℕ → Stretch
stretch_from s = record { digits = get_or s 5 0; zeros = get_or s 6 0; few = is_yes (get_or s 7 0); alarm = is_yes (get_or s 8 0) }

abbrev pub state_from : List ℕ → List ℕ → State
state_from s frame =
    record {
      level = get_or s 0 0;
      window = get_or s 1 0;
      seen = get_or s 2 0;
      mode = mode_of (get_or s 3 0);
      place = get_or s 4 0;
      frame = frame;
      stretch = stretch_from s;
    }

abbrev pub state_numbers : State → List ℕ
state_numbers s =
    s.level
    ∷ s.window
    ∷ s.seen
    ∷ mode_number s.mode
    ∷ s.place
    ∷ s.stretch.digits
    ∷ s.stretch.zeros
    ∷ cond s.stretch.few 1 0
    ∷ cond s.stretch.alarm 1 0
    ∷ []

-- feeding a state whose numbers for yes and no were these: another value than 0 or 1 is refused with 6
unfoldable pub fed_by : State → ℕ → ℕ → List ℕ → ℕ → ℕ → Fed
fed_by s few alarm piece first count = cond (ltb 1 few || ltb 1 alarm) (refused 6 s) (feed_of s piece first count)

-- answer: digits taken, 1 if a frame is ready, 1 if the alarm stands at the end, words tested
abbrev pub fed_answer : Fed → List ℕ
fed_answer f = f.taken ∷ cond f.ready 1 0 ∷ cond f.alarm 1 0 ∷ f.words ∷ []
