-- Calls in turn: a run is the history grown by the digits it took; two pieces in turn are one; a state handed back is valid;
-- and a frame that a call hands over is the N digits received last.
use Rattle.std.specs.Prelude.{Some}
use mathlib.Core.Path.{◌≡◌, refl, sym, ap, ap₂, ◌∙◌}
use mathlib.Core.Bool.{Bool, cond, true, false, ◌||◌}
use mathlib.Core.List.{List, [], ◌∷◌, ◌++◌}
use Prim.Native.Nat.{ℕ, zero, suc, ◌+◌, ◌-◌, ◌*◌, ◌≤◌, ◌<◌}
use native.Mathlib.Omega.{arith}
use borrow.Author.Tests.{eq-eqb, eqb-true}
use lib.Dec.{eqb}
use lib.ListN.{length, take}
use lib.Seq.{take_all, take-nil, take-append-le, take-append-add}
use Rattle.digits.specs.Digits.{Binary}
use Rattle.digits.specs.Runs.{Run}
use Rattle.digits.specs.Runs as runs
use Rattle.digits.proofs.Tests.{cond-told}
use Rattle.digits.proofs.Runs.{piece_cut, piece-binary, heard-append, heard-kept, Ran, ran as digits-ran, run-joined as digits-joined}
use Rattle.table.specs.declared.Row.{Row}
use Rattle.table.specs.Table.{level_of}
use Rattle.levels.specs.Table.{Shared}
use Rattle.levels.proofs.Rows.{shared-row}
use Rattle.receiver.specs.declared.State.{State}
use Rattle.receiver.specs.declared.Fed.{Fed}
use Rattle.modes.specs.Modes.{tested_at}
use Rattle.pieces.specs.Frame.{ready_of}
use Rattle.digits.specs.Runs.{piece_of}
use Rattle.receiver.specs.Feed.{core_of, fresh_state, fresh_of, invalid, refusal_of, after_of, accepted, refused, run_of, feed_row, feed_of, ValidState}
use Rattle.modes.specs.Modes.{Valid}
use Rattle.pieces.specs.Alarm.{uncounted, counted, Counting}
use Rattle.receiver_promises.specs.History.{heard, tested_by, ready_at, ready_after, since, joined, Handed}
use Rattle.digits.proofs.Lists.{binary-append, binary-take}
use Rattle.receiver.proofs.Validity.{valid-only, counting-only, step-valid, Accepted, accepted-if, accepted-only}
use Rattle.pieces.proofs.Counts.{counted-counting}
use Rattle.receiver_promises.proofs.Traces.{Traced, traced-fresh, traced, handed}

-- ---- histories

-- words tested add up
pub tested-append : (row : Row) (s : State) (xs ys : List ℕ) → tested_by row s (xs ++ ys) ≡ tested_by row s xs + tested_by row (heard row s xs) ys
unfolding tested_by runs.heard
tested-append row s [] ys = omega arith
tested-append row s (x ∷ xs) ys = omega (arith, tested-append row (after_of row s x) xs ys)

pub after-valid : (row : Row) → Shared row → (s : State) → Valid row (core_of s) → (d : ℕ) → Valid row (core_of (after_of row s d))
unfolding after_of
after-valid row sh s v d = step-valid row sh (core_of s) v d

pub heard-valid : (row : Row) → Shared row → (ds : List ℕ) (s : State) → Valid row (core_of s) → Valid row (core_of (heard row s ds))
heard-valid row sh ds s v = heard-kept (after_of row) (λ (s : State). Valid row (core_of s)) (λ s v d. after-valid row sh s v d) ds s v

-- the stretch depends on the digits alone, whatever the mode
pub heard-stretch : (row : Row) (ds : List ℕ) (s : State) → (heard row s ds).stretch ≡ counted row s.stretch ds
unfolding runs.heard after_of counted
heard-stretch row [] s = refl
heard-stretch row (d ∷ ds) s = heard-stretch row ds (after_of row s d)

pub heard-counting : (row : Row) (ds : List ℕ) (s : State) → Counting row s.stretch → Counting row (heard row s ds).stretch
heard-counting row ds s k = rw (heard-stretch row ds s) (counted-counting row ds s.stretch k)

pub heard-level : (row : Row) (ds : List ℕ) (s : State) → (heard row s ds).level ≡ s.level
unfolding after_of
heard-level row ds s = heard-kept (after_of row) (λ (t : State). t.level ≡ s.level) (λ t e d. e) ds s refl

pub heard-state : (row : Row) → Shared row → (ds : List ℕ) (s : State) → ValidState row s → ValidState row (heard row s ds)
heard-state row sh ds s v = (heard-valid row sh ds s v.0, heard-counting row ds s v.1)

-- ---- a run: the one over digits of crate digits, which stops where a frame is ready, with the words that its digits test

-- what it answers, where so many words were tested
abbrev fed_by : ℕ → Run State → Fed
fed_by words r = accepted r.state r.taken words r.stopped

module _ (row : Row) where
  abbrev pub run_over : List ℕ → ℕ → State → Run State
  run_over ds t s = runs.run_of (after_of row) (ready_at row) ds t s

  pub ran : (ds : List ℕ) (s : State) → Ran (after_of row) (ready_at row) ds 0 s (run_over ds 0 s)
  ran ds s = digits-ran (after_of row) (ready_at row) ds 0 s

  run_is : (ds : List ℕ) (t n : ℕ) (s : State) → run_of row ds t n s ≡ fed_by (run_of row ds t n s).words (run_over ds t s)
  unfolding run_of runs.run_of
  run_is [] t n s = refl
  run_is (d ∷ ds) t n s = one (ready_of row (core_of next)) (run_is ds (suc t) n' next)
    where
      next : State
      next = after_of row s d

      n' : ℕ
      n' = n + tested_at row (core_of s)

      one : (ready : Bool) → run_of row ds (suc t) n' next ≡ fed_by (run_of row ds (suc t) n' next).words (run_over ds (suc t) next)
          → cond ready (accepted next (suc t) n' true) (run_of row ds (suc t) n' next)
          ≡ fed_by (cond ready (accepted next (suc t) n' true) (run_of row ds (suc t) n' next)).words
          (cond ready (record { taken = suc t; stopped = true; state = next }) (run_over ds (suc t) next))
      one true e = refl
      one false e = e

  run-words : (ds : List ℕ) (t n : ℕ) (s : State) (m : ℕ) → (run_over ds t s).taken ≡ t + m → (run_of row ds t n s).words ≡ n + tested_by row s (take m ds)
  unfolding run_of runs.run_of tested_by
  run-words [] t n s m e = rw (take-nil {A = ℕ} m) (omega arith)
  run-words (d ∷ ds) t n s m e = by-ready (ready_of row (core_of (after_of row s d))) (run-words ds (suc t) (n + tested_at row (core_of s)) (after_of row s d)) e
    where
      by-ready : (ready : Bool)
          → ((k : ℕ) → (run_over ds (suc t) (after_of row s d)).taken ≡ suc t + k
          → (run_of row ds (suc t) (n + tested_at row (core_of s)) (after_of row s d)).words ≡ n + tested_at row (core_of s) + tested_by row (after_of row s d) (take k ds))
          → (cond ready (record { taken = suc t; stopped = true; state = after_of row s d }) (run_over ds (suc t) (after_of row s d))).taken ≡ t + m
          → (cond ready (accepted (after_of row s d) (suc t) (n + tested_at row (core_of s)) true) (run_of row ds (suc t) (n + tested_at row (core_of s)) (after_of row s d))).words
          ≡ n + tested_by row s (take m (d ∷ ds))
      by-ready true rest e =
          let one : m ≡ 1 = omega arith in
          rw one (omega arith)
      by-ready false rest e =
          let k = m - 1 in
          let more : m ≡ suc k = omega (arith, (digits-ran (after_of row) (ready_at row) ds (suc t) (after_of row s d)).counted) in
          rw more (omega (arith, rest k (omega arith)))

  -- what a run answers from its first digit on
  abbrev pub answer_of : List ℕ → State → Fed
  answer_of ds s = fed_by (tested_by row s (take (run_over ds 0 s).taken ds)) (run_over ds 0 s)

  pub run-answer : (ds : List ℕ) (s : State) → run_of row ds 0 0 s ≡ answer_of ds s
  run-answer ds s =
      run_is ds 0 0 s ∙ ap (λ (n : ℕ). fed_by n (run_over ds 0 s)) (run-words ds 0 0 s (run_over ds 0 s).taken (omega arith) ∙ omega arith)

  -- after fewer digits no frame was ready, nor after all of them where none is said to be
  passed : (ds : List ℕ) (s : State) (k : ℕ) → 0 < k → k ≤ (run_over ds 0 s).taken → (k ≡ (run_over ds 0 s).taken → (run_over ds 0 s).stopped ≡ false)
      → ready_after row s (take k ds) ≡ false
  passed ds s zero lo hi q = absurd (omega arith)
  passed ds s (suc k) lo hi q = (ran ds s).passed k (omega (arith, (ran ds s).counted)) (λ e. q (omega (arith, (ran ds s).counted)))

  -- ---- two pieces in turn are one

  pub run-joined : (xs ys : List ℕ) (s : State) → answer_of (xs ++ ys) s ≡ joined (answer_of xs s) (answer_of ys (run_over xs 0 s).state)
  run-joined xs ys s = rw (digits-joined (after_of row) (ready_at row) xs ys s) (by-stop one.stopped refl)
    where
      one : Run State
      one = run_over xs 0 s

      two : Run State
      two = run_over ys 0 one.state

      all : (ready : Bool) → Run State
      all ready = cond ready one (record { taken = one.taken + two.taken; stopped = two.stopped; state = two.state })

      words : one.stopped ≡ false
          → tested_by row s (take (one.taken + two.taken) (xs ++ ys)) ≡ tested_by row s (take one.taken xs) + tested_by row one.state (take two.taken ys)
      words e =
          let r = ran xs s in
          let n : one.taken ≡ length xs = omega (arith, r.counted, r.at_end e) in
          let state : one.state ≡ heard row s xs = r.state ∙ ap (heard row s) (take_all r.taken xs (omega (arith, r.at_end e))) in
          ap (λ (k : ℕ). tested_by row s (take (k + two.taken) (xs ++ ys))) n
          ∙ ap (tested_by row s) (take-append-add xs ys two.taken)
          ∙ tested-append row s xs (take two.taken ys)
          ∙ ap₂ (λ (a b : ℕ). a + b) (ap (tested_by row s) (sym (take_all one.taken xs (omega arith))))
          (ap (λ (st : State). tested_by row st (take two.taken ys)) (sym state))

      by-stop : (ready : Bool) → one.stopped ≡ ready
          → fed_by (tested_by row s (take (all ready).taken (xs ++ ys))) (all ready) ≡ cond ready (answer_of xs s) (fed_by ((answer_of xs s).words + (answer_of ys one.state).words) (all false))
      by-stop true e = ap (λ (ds : List ℕ). fed_by (tested_by row s ds) one) (take-append-le one.taken xs ys (omega (arith, (ran xs s).counted, (ran xs s).within)))
      by-stop false e = ap (λ (n : ℕ). fed_by n (all false)) (words e)

-- ---- the same of the public call

module _ (s : State) (row : Row) (known : level_of s.level ≡ Some row) where
  pub feed-run : (slice : List ℕ) (first count : ℕ) → Accepted row (core_of s) s.stretch (length slice) first count
      → feed_of s slice first count ≡ answer_of row (piece_of slice first count) s
  unfolding feed_row
  feed-run slice first count a =
      rw (known, eq-eqb _ 0 (accepted-only row (core_of s) s.stretch (length slice) first count a)) (run-answer row (piece_of slice first count) s)

  -- an accepted call's state was valid, and what it asks of the piece held
  pub accepted-valid : (slice : List ℕ) (first count : ℕ) → (feed_of s slice first count).refusal ≡ 0 → Accepted row (core_of s) s.stretch (length slice) first count
  unfolding feed_row
  accepted-valid slice first count e =
      accepted-if row (core_of s) s.stretch (length slice) first count
      (told (refusal_of row (core_of s) s.stretch (length slice) first count) (rw known at e))
    where
      told : (n : ℕ) → (cond (eqb n 0) (run_of row (piece_of slice first count) 0 0 s) (refused n s)).refusal ≡ 0 → n ≡ 0
      told n = cond-told (λ (r : Fed). r.refusal ≡ 0 → n ≡ 0) (eqb n 0) (λ q _. eqb-true n 0 q) (λ _ q. q)

  -- an accepted call answers as the run over its digits
  pub accepted-answer : (slice : List ℕ) (first count : ℕ) → (feed_of s slice first count).refusal ≡ 0
      → feed_of s slice first count ≡ answer_of row (piece_of slice first count) s
  accepted-answer slice first count e = feed-run slice first count (accepted-valid slice first count e)

  -- the words that it reports are those that the digits taken test
  pub words-tested : (slice : List ℕ) (first count : ℕ) → (feed_of s slice first count).refusal ≡ 0
      → (feed_of s slice first count).words ≡ tested_by row s (take (feed_of s slice first count).taken (piece_of slice first count))
  words-tested slice first count e = rw (accepted-answer slice first count e)

  -- it passes over no frame: none was ready after fewer digits than it took
  pub none_passed : (slice : List ℕ) (first count : ℕ) → (feed_of s slice first count).refusal ≡ 0
      → (k : ℕ) → 0 < k → k < (feed_of s slice first count).taken → ready_after row s (take k (piece_of slice first count)) ≡ false
  none_passed slice first count e k lo =
      rw (accepted-answer slice first count e) (λ hi. passed row (piece_of slice first count) s k lo (omega arith) (λ q. absurd (omega arith)))

  -- and where it says that none is ready, none was after any of its digits
  pub none-was : (slice : List ℕ) (first count : ℕ) → (feed_of s slice first count).refusal ≡ 0 → (feed_of s slice first count).ready ≡ false
      → (k : ℕ) → 0 < k → k ≤ length (piece_of slice first count) → ready_after row s (take k (piece_of slice first count)) ≡ false
  none-was slice first count e =
      rw (accepted-answer slice first count e)
      (λ none k lo hi. let r = ran row (piece_of slice first count) s in passed row (piece_of slice first count) s k lo (omega (arith, r.counted, r.at_end none)) (λ _. none))

  -- every state handed back from a valid one is valid, and of the same level
  pub feed-valid : ValidState row s → (slice : List ℕ) (first count : ℕ)
      → ValidState row (feed_of s slice first count).state × ((feed_of s slice first count).state.level ≡ s.level)
  unfolding feed_row
  feed-valid v slice first count =
      rw known
      (cond-told (λ (r : Fed). ValidState row r.state × (r.state.level ≡ s.level))
      (eqb (refusal_of row (core_of s) s.stretch (length slice) first count) 0) (λ _. run-valid) (λ _. (v, refl)))
    where
      run-valid : ValidState row (run_of row (piece_of slice first count) 0 0 s).state × ((run_of row (piece_of slice first count) 0 0 s).state.level ≡ s.level)
      run-valid =
          let r = ran row (piece_of slice first count) s in
          rw (ap (λ (f : Fed). f.state) (run-answer row (piece_of slice first count) s) ∙ r.state) (
            heard-state row (shared-row s.level row known) (take r.taken (piece_of slice first count)) s v,
            heard-level row (take r.taken (piece_of slice first count)) s,
          )

-- two pieces of any two slices, accepted in turn, are the piece that has the digits of both
pub feed-joined : (s : State) (row : Row) → level_of s.level ≡ Some row
    → (slice₁ : List ℕ) (first₁ count₁ : ℕ) (slice₂ : List ℕ) (first₂ count₂ : ℕ) (slice : List ℕ) (first count : ℕ)
    → piece_of slice first count ≡ piece_of slice₁ first₁ count₁ ++ piece_of slice₂ first₂ count₂
    → Accepted row (core_of s) s.stretch (length slice₁) first₁ count₁
    → length slice₂ ≤ 65536 → first₂ + count₂ ≤ 8 * length slice₂
    → Accepted row (core_of s) s.stretch (length slice) first count
    → feed_of s slice first count ≡ joined (feed_of s slice₁ first₁ count₁) (feed_of (feed_of s slice₁ first₁ count₁).state slice₂ first₂ count₂)
feed-joined s row known slice₁ first₁ count₁ slice₂ first₂ count₂ slice first count same a₁ small within a =
    let e₁ = feed-run s row known slice₁ first₁ count₁ a₁ in
    feed-run s row known slice first count a
    ∙ ap (λ (ds : List ℕ). answer_of row ds s) same ∙ run-joined row xs ys s
    ∙ sym (ap₂ (λ (one two : Fed). joined one two) e₁ (ap (λ (one : Fed). feed_of one.state slice₂ first₂ count₂) e₁ ∙ next))
  where
    xs : List ℕ
    xs = piece_of slice₁ first₁ count₁

    ys : List ℕ
    ys = piece_of slice₂ first₂ count₂

    midway : State
    midway = (run_over row xs 0 s).state

    r : Ran (after_of row) (ready_at row) xs 0 s (run_over row xs 0 s)
    r = ran row xs s

    level : level_of midway.level ≡ Some row
    level = rw (r.state, heard-level row (take r.taken xs) s) known

    valid : ValidState row midway
    valid = rw r.state (heard-state row (shared-row s.level row known) (take r.taken xs) s (a₁.valid, a₁.counting))

    next : feed_of midway slice₂ first₂ count₂ ≡ answer_of row ys midway
    next = feed-run midway row level slice₂ first₂ count₂ (record { valid = valid.0; counting = valid.1; small = small; within = within })

-- one piece, wherever it is cut
pub feed-cut : (s : State) (row : Row) → level_of s.level ≡ Some row → (slice : List ℕ) (first a b : ℕ)
    → (feed_of s slice first (a + b)).refusal ≡ 0
    → feed_of s slice first (a + b) ≡ joined (feed_of s slice first a) (feed_of (feed_of s slice first a).state slice (first + a) b)
feed-cut s row known slice first a b e =
    let whole = accepted-valid s row known slice first (a + b) e in
    feed-joined s row known slice first a slice (first + a) b slice first (a + b) (piece_cut slice first a b)
    (record { valid = whole.valid; counting = whole.counting; small = whole.small; within = omega (arith, whole.within) })
    whole.small
    (omega (arith, whole.within))
    whole

-- the history of digits decides the state: after an accepted call it is that of the history with the digits taken, and a frame
-- that is ready is the N digits of it received last
pub record After-feed (row : Row) (level : ℕ) (ds new : List ℕ) (r : Fed) : Type 0 where
  pub state : r.state ≡ since row level (ds ++ take r.taken new)
  pub stops : r.ready ≡ false → r.taken ≡ length new
  pub frame : r.ready ≡ true → Handed row (ds ++ take r.taken new) r.state.frame

pub feed-from : (level : ℕ) (row : Row) → level_of level ≡ Some row → (ds : List ℕ) → Binary ds → (slice : List ℕ) (first count : ℕ)
    → (feed_of (since row level ds) slice first count).refusal ≡ 0
    → After-feed row level ds (piece_of slice first count) (feed_of (since row level ds) slice first count)
feed-from level row known ds bin slice first count e =
    record {
      state = state;
      stops = λ q. taken ∙ r.at_end (sym (ap (λ (f : Fed). f.ready) is) ∙ q);
      frame = λ q. handed row sh (ds ++ take fed.taken new) fed.state traces (at-frame (sym (ap (λ (f : Fed). f.ready) is) ∙ q));
    }
  where
    s : State
    s = since row level ds

    sh : Shared row
    sh = shared-row level row known

    new : List ℕ
    new = piece_of slice first count

    fed : Fed
    fed = feed_of s slice first count

    same_level : level_of s.level ≡ Some row
    same_level = rw (heard-level row ds (fresh_state level)) known

    is : fed ≡ answer_of row new s
    is = accepted-answer s row same_level slice first count e

    r : Ran (after_of row) (ready_at row) new 0 s (run_over row new 0 s)
    r = ran row new s

    taken : fed.taken ≡ r.taken
    taken = ap (λ (f : Fed). f.taken) is ∙ omega (arith, r.counted)

    state : fed.state ≡ since row level (ds ++ take fed.taken new)
    state = ap (λ (f : Fed). f.state) is ∙ r.state ∙ rw taken (sym (heard-append (after_of row) (fresh_state level) ds (take r.taken new)))

    at-frame : (run_over row new 0 s).stopped ≡ true → ready_of row (core_of fed.state) ≡ true
    at-frame q =
        let last : r.taken ≡ suc (r.taken - 1) = omega (arith, (r.at_stop q).0) in
        ap (λ (st : State). ready_of row (core_of st)) (ap (λ (f : Fed). f.state) is ∙ r.state ∙ ap (λ (n : ℕ). heard row s (take n new)) last)
        ∙ (r.at_stop q).1 (r.taken - 1) (sym last)

    traces : Traced row (ds ++ take fed.taken new) fed.state
    traces =
        rw state
        (traced row sh level (ds ++ take fed.taken new)
        (binary-append ds (take fed.taken new) bin (binary-take fed.taken new (piece-binary slice first count))))

-- ---- fresh

pub fresh-state : (row : Row) → Shared row → (level : ℕ) → ValidState row (fresh_state level)
fresh-state row sh level =
    let v = (traced-fresh row sh level).valid in
    (v, record { within = omega (arith, v.place); fewer = omega arith })

pub fresh-valid : (level : ℕ) (row : Row) → level_of level ≡ Some row
    → (invalid row (core_of (fresh_of level).state) || uncounted row (fresh_of level).state.stretch) ≡ false
fresh-valid level row known =
    let v = fresh-state row (shared-row level row known) level in
    rw (known, valid-only row (core_of (fresh_state level)) v.0, counting-only row (fresh_state level).stretch v.1)
