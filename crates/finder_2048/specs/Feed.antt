-- The two calls: a fresh state, and a piece fed to a state. Document 02, request 3; refusals as at the receiver of document 01.
use Rattle.std.specs.Prelude.{◌≡◌, Bool, cond, false, not, ◌&&◌, ◌||◌, List, ℕ, ◌+◌, ◌*◌, ◌^◌, ◌<◌, ◌≤◌, eqb, ltb, leb, length}
use Rattle.digits.specs.Runs.{Run, run_of, piece_of}
use Rattle.finder_2048.specs.declared.Mode.{Mode}
use Rattle.finder_2048.specs.declared.Mode.TheVariants.{Hunting, WordFound, SecondSeen, Aligned}
use Rattle.finder_2048.specs.declared.State.{State}
use Rattle.finder_2048.specs.declared.Fed.{Fed}
use Rattle.finder_2048.specs.Modes.{hunting, aligned, missed, step_of, turned}

-- ---- a fresh state: it hunts, and all its numbers are 0

abbrev pub fresh_state : State
fresh_state = record { window = 0; seen = 0; mode = Hunting; place = 0 }

-- the whole statement of making a fresh state
abbrev pub FreshMet : State → Type 0
FreshMet s = s ≡ fresh_state

-- ---- refusals

-- a place that does not go with the mode: hunting is at 0, word found under 250, second digit seen from 250 to 511, aligned under 512
abbrev pub misplaced : Mode → ℕ → Bool
misplaced Hunting p = not (eqb p 0)
misplaced WordFound p = leb 250 p
misplaced SecondSeen p = ltb p 250 || leb 512 p
misplaced (Aligned m) p = leb 512 p

-- 6: the state is not valid: window at or over 2 to the 7, digits seen over 7, more than two words missed, a place that does not go with the
-- mode, or not hunting with fewer than seven digits seen
unfoldable pub invalid : State → Bool
invalid s =
    leb (2 ^ 7) s.window
    || ltb 7 s.seen
    || ltb 2 (missed s.mode)
    || misplaced s.mode s.place
    || not (hunting s.mode) && ltb s.seen 7

-- a piece is refused in the order 6, 2, 7, as at the receiver: 2, a slice over 65,536 bytes; 7, first digit plus number of digits is more
-- than the slice holds
unfoldable pub refusal_of : State → ℕ → ℕ → ℕ → ℕ
refusal_of s bytes first count =
    cond (invalid s) 6 (cond (ltb 65536 bytes) 2 (cond (ltb (8 * bytes) (first + count)) 7 0))

-- under a refusal no digit is taken, "aligned" is said of none, and the state comes back equal
abbrev pub refused : ℕ → State → Fed
refused number s = record { refusal = number; taken = 0; aligned = false; state = s }

-- ---- the run over a piece: it stops after the digit at which alignment is found or lost, or at the end of the piece

abbrev pub fed_by : Run State → Fed
fed_by r = record { refusal = 0; taken = r.taken; aligned = aligned r.state.mode; state = r.state }

abbrev pub run_from : State → List ℕ → Run State
run_from s ds = run_of step_of turned ds 0 s

unfoldable pub feed_of : State → List ℕ → ℕ → ℕ → Fed
feed_of s slice first count =
    cond (eqb (refusal_of s (length slice) first count) 0) (fed_by (run_from s (piece_of slice first count)))
    (refused (refusal_of s (length slice) first count) s)

-- the whole statement of feeding a piece
abbrev pub FeedMet : State → List ℕ → ℕ → ℕ → Fed → Type 0
FeedMet s slice first count fed = fed ≡ feed_of s slice first count

-- ---- what validity says, item by item: proofs/Validity.antt shows that it is `invalid` answered with no

abbrev pub Placed : Mode → ℕ → Type 0
Placed Hunting p = p ≡ 0
Placed WordFound p = p < 250
Placed SecondSeen p = (250 ≤ p) × (p < 512)
Placed (Aligned m) p = p < 512

pub record Valid (s : State) : Type 0 where
  pub window : s.window < 2 ^ 7
  pub seen : s.seen ≤ 7
  pub missed : missed s.mode ≤ 2
  pub place : Placed s.mode s.place
  pub came : hunting s.mode ≡ false → 7 ≤ s.seen
