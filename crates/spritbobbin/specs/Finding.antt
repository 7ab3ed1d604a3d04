-- The C face of the finder of 2048 kbit/s frames: how its state and its answers pass as numbers, and the whole statement of each call.
use Rattle.std.specs.Prelude.{◌≡◌, cond, List, [], ◌∷◌, ℕ, ◌+◌, ◌-◌, eqb, leb, get_or}
use Rattle.finder_2048.specs.declared.Mode.{Mode}
use Rattle.finder_2048.specs.declared.Mode.TheVariants.{Hunting, WordFound, SecondSeen, Aligned}
use Rattle.finder_2048.specs.declared.State.{State}
use Rattle.finder_2048.specs.declared.Fed.{Fed}
use Rattle.finder_2048.specs.Feed.{fresh_state, feed_of}

-- mode: 0 hunting, 1 word found, 2 second digit seen, 3 + m aligned with m words missed
abbrev pub mode_number : Mode → ℕ
mode_number Hunting = 0
mode_number WordFound = 1
mode_number SecondSeen = 2
mode_number (Aligned m) = 3 + m

-- the mode of a number; a number over 5 is a mode with too many missed, which is refused with 6
unfoldable pub mode_of : ℕ → Mode
mode_of n = cond (eqb n 0) Hunting (cond (eqb n 1) WordFound (cond (eqb n 2) SecondSeen (cond (leb n 5) (Aligned (n - 3)) (Aligned 3))))

-- state: window, digits seen, mode, place
abbrev pub state_from : List ℕ → State
state_from s = record { window = get_or s 0 0; seen = get_or s 1 0; mode = mode_of (get_or s 2 0); place = get_or s 3 0 }

abbrev pub state_numbers : State → List ℕ
state_numbers s = s.window ∷ s.seen ∷ mode_number s.mode ∷ s.place ∷ []

-- answer: digits taken, 1 if aligned at their end
abbrev pub fed_answer : Fed → List ℕ
fed_answer f = f.taken ∷ cond f.aligned 1 0 ∷ []

-- a refused feed writes no state
abbrev pub fed_state : Fed → List ℕ → List ℕ
fed_state f state = cond (eqb f.refusal 0) (state_numbers f.state) state

-- spritbobbin_finder_fresh returns 0, and leaves the state's numbers
abbrev pub FinderFreshMet : ℕ → List ℕ → Type 0
FinderFreshMet returned state_left = (returned ≡ 0) × (state_left ≡ state_numbers fresh_state)

-- spritbobbin_finder_feed returns the refusal number, and leaves the state's numbers and the answer
abbrev pub FinderFeedMet : List ℕ → List ℕ → ℕ → ℕ → ℕ → List ℕ → List ℕ → Type 0
FinderFeedMet state piece first count returned state_left answer_left =
    let f = feed_of (state_from state) piece first count in
    (returned ≡ f.refusal) × (state_left ≡ fed_state f state) × (answer_left ≡ fed_answer f)
