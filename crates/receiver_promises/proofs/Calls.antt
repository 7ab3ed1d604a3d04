-- Calls in turn answer as the stream does: what they hand over, the state that they leave and the words that they test are those of the digits
-- that they took, one stream, wherever it was cut; and a caller who goes on with the rest of a piece where a frame stopped the call loses no digit.
-- That is so of any calls that stop (crate digits, proofs/Runs.antt); here is what it says of the receiver's.
use Rattle.std.specs.Prelude.{Some}
use mathlib.Core.Path.{◌≡◌, refl, sym, ap, ap₂, ◌∙◌}
use mathlib.Core.Logic.{◌⊎◌, inl, inr}
use mathlib.Core.List.{List, [], ◌∷◌, map}
use Prim.Native.Nat.{ℕ, ◌+◌, ◌≤◌}
use lib.Dec.{eqb}
use lib.ListN.{length, take}
use Rattle.digits.specs.Runs.{untouched, Piece, digits_in, Lent, AllLent, digits_in_all, left_by, taken_by, calls_for_all}
use Rattle.digits.specs.Runs as runs-specs
use Rattle.digits.proofs.Runs as runs
use Rattle.digits.proofs.Tests.{cond-told}
use Rattle.table.specs.declared.Row.{Row}
use Rattle.table.specs.Table.{level_of}
use Rattle.levels.proofs.Rows.{shared-row}
use Rattle.receiver.specs.declared.State.{State}
use Rattle.receiver.specs.declared.Fed.{Fed}
use Rattle.receiver.specs.Feed.{core_of, fresh_state, refusal_of, after_of, feed_row, ValidState}
use Rattle.receiver_promises.specs.History.{heard, tested_by, ready_at, since}
use Rattle.receiver_promises.specs.Calls.{answer_to, as_run, call_of, delivered, streamed, handed_by, words_by}
use Rattle.receiver_promises.proofs.Pieces.{tested-append, heard-state, run_over, run-answer, feed-run, fresh-state}

-- ---- any calls whatever, refused ones too

-- a state of this row stays one
abbrev OfRow : Row → State → Type 0
OfRow row s = level_of s.level ≡ Some row

knows : (row : Row) (s : State) → OfRow row s → (d : ℕ) → OfRow row (after_of row s d)
unfolding after_of
knows row s known d = known

module _ (row : Row) (s : State) (known : OfRow row s) (p : Piece) where
  pub call-each : (call_of s p ≡ untouched s) ⊎ (call_of s p ≡ run_over row (digits_in p) 0 s)
  unfolding feed_row
  call-each =
      rw known
      (cond-told (λ (f : Fed). (as_run f ≡ untouched s) ⊎ (as_run f ≡ run_over row (digits_in p) 0 s))
      (eqb (refusal_of row (core_of s) s.stretch (length p.slice) p.first p.count) 0)
      (λ _. inr (ap as_run (run-answer row (digits_in p) s))) (λ _. inl refl))

  call-words : (answer_to s p).words ≡ tested_by row s (take (answer_to s p).taken (digits_in p))
  unfolding feed_row tested_by
  call-words =
      rw known
      (cond-told (λ (f : Fed). f.words ≡ tested_by row s (take f.taken (digits_in p)))
      (eqb (refusal_of row (core_of s) s.stretch (length p.slice) p.first p.count) 0)
      (λ _. rw (run-answer row (digits_in p) s)) (λ _. refl))

-- one call: its state is that of the digits that it took
pub answered : (row : Row) (s : State) → OfRow row s → (p : Piece)
    → ((answer_to s p).taken ≤ length (digits_in p)) × ((answer_to s p).state ≡ heard row s (take (answer_to s p).taken (digits_in p)))
answered row s known p =
    let r = runs.answered (after_of row) (ready_at row) call_of (OfRow row) (knows row) (call-each row) s known p in
    (r.within, r.state)

words-taken : (row : Row) (ps : List Piece) (s : State) → OfRow row s → words_by s ps ≡ tested_by row s (taken_by call_of s ps)
unfolding words_by taken_by tested_by
words-taken row [] s known = refl
words-taken row (p ∷ ps) s known =
    let r = answer_to s p in
    ap₂ (λ (a b : ℕ). a + b) (call-words row s known p)
    (words-taken row ps r.state (runs.call_known (after_of row) (ready_at row) call_of (OfRow row) (knows row) (call-each row) s known p))
    ∙ rw (tested-append row s (take r.taken (digits_in p)) (taken_by call_of r.state ps), (answered row s known p).1)

-- however a stream is cut into calls, and whatever they answer: the state that they leave, the frames that they hand over and the words that
-- they test are those of the digits that they took
pub as-taken : (row : Row) (ps : List Piece) (before : ℕ) (s : State) → level_of s.level ≡ Some row
    → (left_by call_of s ps ≡ heard row s (taken_by call_of s ps))
    × (handed_by before s ps ≡ streamed row before s (taken_by call_of s ps))
    × (words_by s ps ≡ tested_by row s (taken_by call_of s ps))
as-taken row ps before s known =
    let all = runs.as-taken (after_of row) (ready_at row) call_of (OfRow row) (knows row) (call-each row) ps before s known in
    (all.0, ap (map delivered) all.1, words-taken row ps s known)

-- ---- a caller who goes on with the rest of each piece takes all digits, from a valid state

abbrev Sound : Row → State → Type 0
Sound row s = OfRow row s × ValidState row s

sound-on : (row : Row) (s : State) → Sound row s → (d : ℕ) → Sound row (after_of row s d)
unfolding runs-specs.heard
sound-on row s k d = (knows row s k.0 d, heard-state row (shared-row s.level row k.0) (d ∷ []) s k.1)

call-run : (row : Row) (s : State) → Sound row s → (p : Piece) → Lent p → call_of s p ≡ run_over row (digits_in p) 0 s
call-run row s k p lent =
    ap as_run (feed-run s row k.0 p.slice p.first p.count (record { valid = k.1.0; counting = k.1.1; small = lent.small; within = lent.within }))

-- ---- the stream, wherever it was cut

module _ (row : Row) (s : State) (known : level_of s.level ≡ Some row) (v : ValidState row s) where
  -- pieces fed one after another, each with its rest after a frame: the state, the frames and the words tested are those of the stream of all
  -- their digits
  pub as-the-stream : (ps : List Piece) → AllLent ps
      → (left_by call_of s (calls_for_all call_of s ps) ≡ heard row s (digits_in_all ps))
      × (handed_by 0 s (calls_for_all call_of s ps) ≡ streamed row 0 s (digits_in_all ps))
      × (words_by s (calls_for_all call_of s ps) ≡ tested_by row s (digits_in_all ps))
  as-the-stream ps lent =
      rw (runs.all-taken (after_of row) (ready_at row) call_of (OfRow row) (knows row) (call-each row) (Sound row) (sound-on row) (λ s k. k.0) (call-run row) ps s (known, v) lent) at
      (as-taken row (calls_for_all call_of s ps) 0 s known)

  -- two ways to cut one stream
  pub cut-anywhere : (ps qs : List Piece) → AllLent ps → AllLent qs → digits_in_all ps ≡ digits_in_all qs
      → (left_by call_of s (calls_for_all call_of s ps) ≡ left_by call_of s (calls_for_all call_of s qs))
      × (handed_by 0 s (calls_for_all call_of s ps) ≡ handed_by 0 s (calls_for_all call_of s qs))
      × (words_by s (calls_for_all call_of s ps) ≡ words_by s (calls_for_all call_of s qs))
  cut-anywhere ps qs lent lent' same =
      let one = as-the-stream ps lent in
      let two = as-the-stream qs lent' in (
        one.0 ∙ ap (heard row s) same ∙ sym two.0,
        one.1 ∙ ap (streamed row 0 s) same ∙ sym two.1,
        one.2 ∙ ap (tested_by row s) same ∙ sym two.2,
      )

-- from reset
pub fresh-stream : (level : ℕ) (row : Row) → level_of level ≡ Some row → (ps : List Piece) → AllLent ps
    → (left_by call_of (fresh_state level) (calls_for_all call_of (fresh_state level) ps) ≡ since row level (digits_in_all ps))
    × (handed_by 0 (fresh_state level) (calls_for_all call_of (fresh_state level) ps) ≡ streamed row 0 (fresh_state level) (digits_in_all ps))
    × (words_by (fresh_state level) (calls_for_all call_of (fresh_state level) ps) ≡ tested_by row (fresh_state level) (digits_in_all ps))
fresh-stream level row known = as-the-stream row (fresh_state level) known (fresh-state row (shared-row level row known) level)
