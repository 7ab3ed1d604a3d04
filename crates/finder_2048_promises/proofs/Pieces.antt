-- The public call by the run over its digits: it passes over no digit at which alignment is found or lost; two pieces in turn are one, wherever
-- the stream was cut; a state handed back is valid; and calls in turn answer as the stream does.
use mathlib.Core.Path.{◌≡◌, refl, sym, ap, ap₂, ◌∙◌}
use mathlib.Core.Bool.{Bool, cond, true, false, true≢false}
use mathlib.Core.Logic.{◌⊎◌, inl, inr}
use mathlib.Core.List.{List, [], ◌∷◌, ◌++◌}
use Prim.Native.Nat.{ℕ, suc, ◌+◌, ◌≤◌, ◌<◌}
use native.Mathlib.Omega.{arith}
use borrow.Author.Tests.{eq-eqb, eqb-true}
use lib.Dec.{eqb}
use lib.ListN.{length, take}
use Rattle.digits.specs.Runs.{heard, Run, run_of, stops_at, untouched, joined, stops_of, piece_of, Piece, digits_in, Lent, AllLent, digits_in_all, left_by, taken_by, said_by, calls_for_all}
use Rattle.digits.proofs.Tests.{cond-told}
use Rattle.digits.proofs.Runs.{piece_cut, heard-append, heard-kept, Ran, ran, run-joined}
use Rattle.digits.proofs.Runs as runs
use Rattle.finder_2048.specs.declared.State.{State}
use Rattle.finder_2048.specs.declared.Fed.{Fed}
use Rattle.finder_2048.specs.Modes.{aligned, step_of, differ, turned}
use Rattle.finder_2048.specs.Feed.{fresh_state, refusal_of, refused, fed_by, run_from, feed_of, Valid}
use Rattle.finder_2048_promises.specs.History.{since, call_of}
use Rattle.finder_2048.proofs.Validity.{Accepted, accepted-if, accepted-only, fresh-valid, step-valid}

pub heard-valid : (ds : List ℕ) (s : State) → Valid s → Valid (heard step_of s ds)
heard-valid = heard-kept step_of Valid (λ s v d. step-valid s v d)

-- ---- one call

module _ (s : State) (slice : List ℕ) (first count : ℕ) where
  abbrev ds : List ℕ
  ds = piece_of slice first count

  pub feed-run : Accepted s (length slice) first count → feed_of s slice first count ≡ fed_by (run_from s (piece_of slice first count))
  unfolding feed_of
  feed-run a = rw (eq-eqb (refusal_of s (length slice) first count) 0 (accepted-only s (length slice) first count a))

  -- an accepted call's state was valid, and what it asks of the piece held
  pub accepted-valid : (feed_of s slice first count).refusal ≡ 0 → Accepted s (length slice) first count
  unfolding feed_of
  accepted-valid e = accepted-if s (length slice) first count (told (refusal_of s (length slice) first count) e)
    where
      told : (n : ℕ) → (cond (eqb n 0) (fed_by (run_from s ds)) (refused n s)).refusal ≡ 0 → n ≡ 0
      told n = cond-told (λ (r : Fed). r.refusal ≡ 0 → n ≡ 0) (eqb n 0) (λ q _. eqb-true n 0 q) (λ _ q. q)

  -- an accepted call: the state is that of the history with the digits taken, and so is what it says of alignment; it passed over no digit at which
  -- alignment is found or lost, and stopped at such a digit or at the piece's end
  pub record Answered (r : Fed) : Type 0 where
    pub within : r.taken ≤ length (piece_of slice first count)
    pub state : r.state ≡ heard step_of s (take r.taken (piece_of slice first count))
    pub says : r.aligned ≡ aligned r.state.mode
    pub passed : (k : ℕ) → suc k < r.taken → stops_at step_of turned s (piece_of slice first count) k ≡ false
    pub stops : (r.taken ≡ length (piece_of slice first count)) ⊎ ((k : ℕ) → suc k ≡ r.taken → stops_at step_of turned s (piece_of slice first count) k ≡ true)

  pub answered : (feed_of s slice first count).refusal ≡ 0 → Answered (feed_of s slice first count)
  answered e = rw (feed-run (accepted-valid e)) (of-run (run_from s ds) (ran step_of turned ds 0 s))
    where
      of-run : (r : Run State) → Ran step_of turned ds 0 s r → Answered (fed_by r)
      of-run r h =
          let n : r.taken ≡ h.taken = omega (arith, h.counted) in
          record {
            within = omega (arith, h.within);
            state = rw n h.state;
            says = refl;
            passed = λ k lo. h.passed k (omega arith) (λ q. absurd (over k h.taken (omega arith) q));
            stops = by-stop r.stopped refl;
          }
        where
          over : (k n : ℕ) → suc k < n → suc k ≡ n → ⊥
          over k n lo q = omega arith

          by-stop : (b : Bool) → r.stopped ≡ b → (r.taken ≡ length ds) ⊎ ((k : ℕ) → suc k ≡ r.taken → stops_at step_of turned s ds k ≡ true)
          by-stop true e = inr (λ k q. (h.at_stop e).1 k (omega (arith, h.counted)))
          by-stop false e = inl (omega (arith, h.counted, h.at_end e))

  -- every state handed back from a valid one is valid
  pub feed-valid : Valid s → Valid (feed_of s slice first count).state
  unfolding feed_of
  feed-valid v =
      cond-told (λ (r : Fed). Valid r.state) (eqb (refusal_of s (length slice) first count) 0)
      (λ _. let r = ran step_of turned ds 0 s in rw r.state (heard-valid (take r.taken ds) s v)) (λ _. v)

-- from reset: the history of digits decides the state
pub feed-from : (ds slice : List ℕ) (first count : ℕ) → (feed_of (since ds) slice first count).refusal ≡ 0
    → (feed_of (since ds) slice first count).state ≡ since (ds ++ take (feed_of (since ds) slice first count).taken (piece_of slice first count))
feed-from ds slice first count e =
    let r = answered (since ds) slice first count e in
    r.state ∙ sym (heard-append step_of fresh_state ds (take (feed_of (since ds) slice first count).taken (piece_of slice first count)))

-- ---- a call as a run: it stopped exactly where alignment is no longer what it was

differ_same : (b : Bool) → differ b b ≡ false
differ_same true = refl
differ_same false = refl

-- while a run does not stop, alignment stays
pub run-says : (ds : List ℕ) (t : ℕ) (s : State)
    → differ (aligned s.mode) (aligned (run_of step_of turned ds t s).state.mode) ≡ (run_of step_of turned ds t s).stopped
unfolding run_of
run-says [] t s = differ_same (aligned s.mode)
run-says (d ∷ ds) t s = by_turn (turned s (step_of s d)) refl (run-says ds (suc t) (step_of s d))
  where
    next : State
    next = step_of s d

    same : (a b : Bool) → differ a b ≡ false → a ≡ b
    same true true e = refl
    same true false e = absurd (true≢false e)
    same false true e = absurd (true≢false e)
    same false false e = refl

    by_turn : (b : Bool) → turned s next ≡ b
        → differ (aligned next.mode) (aligned (run_of step_of turned ds (suc t) next).state.mode) ≡ (run_of step_of turned ds (suc t) next).stopped
        → differ (aligned s.mode) (aligned (cond b (record { taken = suc t; stopped = true; state = next }) (run_of step_of turned ds (suc t) next)).state.mode)
        ≡ (cond b (record { taken = suc t; stopped = true; state = next }) (run_of step_of turned ds (suc t) next)).stopped
    by_turn true e rest = e
    by_turn false e rest = rw (same (aligned s.mode) (aligned next.mode) e) rest

pub call-run : (s : State) → Valid s → (p : Piece) → Lent p → call_of s p ≡ run_of step_of turned (digits_in p) 0 s
call-run s v p lent =
    let e = feed-run s p.slice p.first p.count (record { valid = v; small = lent.small; within = lent.within }) in
    let said = run-says (digits_in p) 0 s in
    rw (e, said)

pub call-each : (s : State) → Unit {0} → (p : Piece) → (call_of s p ≡ untouched s) ⊎ (call_of s p ≡ run_of step_of turned (digits_in p) 0 s)
unfolding feed_of
call-each s _ p =
    cond-told (λ (r : Fed). (record { taken = r.taken; stopped = differ (aligned s.mode) (aligned r.state.mode); state = r.state } ≡ untouched s)
    ⊎ (record { taken = r.taken; stopped = differ (aligned s.mode) (aligned r.state.mode); state = r.state } ≡ run_of step_of turned (digits_in p) 0 s))
    (eqb (refusal_of s (length p.slice) p.first p.count) 0)
    (λ _. inr (rw (run-says (digits_in p) 0 s)))
    (λ _. inl (rw (differ_same (aligned s.mode))))

-- ---- two pieces in turn are one

-- two pieces of any two slices, accepted in turn, are the piece that has the digits of both
pub feed-joined : (s : State) → Valid s → (one two whole : Piece) → Lent one → Lent two → Lent whole → digits_in whole ≡ digits_in one ++ digits_in two
    → call_of s whole ≡ joined (call_of s one) (call_of (call_of s one).state two)
feed-joined s v one two whole l₁ l₂ l same =
    let e₁ = call-run s v one l₁ in
    let e₂ = call-run (call_of s one).state (feed-valid s one.slice one.first one.count v) two l₂ in
    call-run s v whole l
    ∙ rw same (run-joined step_of turned (digits_in one) (digits_in two) s)
    ∙ sym (ap₂ (λ (a b : Run State). joined a b) e₁ (e₂ ∙ ap (λ (r : Run State). run_of step_of turned (digits_in two) 0 r.state) e₁))

-- one piece, wherever it is cut
pub feed-cut : (s : State) → Valid s → (slice : List ℕ) (first a b : ℕ) → Lent (record { slice = slice; first = first; count = a + b })
    → call_of s (record { slice = slice; first = first; count = a + b })
    ≡ joined (call_of s (record { slice = slice; first = first; count = a }))
    (call_of (call_of s (record { slice = slice; first = first; count = a })).state (record { slice = slice; first = first + a; count = b }))
feed-cut s v slice first a b l =
    feed-joined s v (record { slice = slice; first = first; count = a }) (record { slice = slice; first = first + a; count = b })
    (record { slice = slice; first = first; count = a + b })
    (record { small = l.small; within = omega (arith, l.within) })
    (record { small = l.small; within = omega (arith, l.within) })
    l (piece_cut slice first a b)

-- ---- calls in turn

-- any calls whatever, refused ones too: the state that they leave and what they say is found and lost are those of the digits that they took
pub as-taken : (ps : List Piece) (before : ℕ) (s : State)
    → (left_by call_of s ps ≡ heard step_of s (taken_by call_of s ps)) × (said_by call_of before s ps ≡ stops_of step_of turned before s (taken_by call_of s ps))
as-taken ps before s = runs.as-taken step_of turned call_of (λ _. Unit {0}) (λ _ _ _. tt) call-each ps before s tt

-- pieces fed one after another, each with its rest after a stop: the stream of all their digits
pub as-the-stream : (s : State) → Valid s → (ps : List Piece) → AllLent ps
    → (left_by call_of s (calls_for_all call_of s ps) ≡ heard step_of s (digits_in_all ps))
    × (said_by call_of 0 s (calls_for_all call_of s ps) ≡ stops_of step_of turned 0 s (digits_in_all ps))
as-the-stream = runs.as-the-stream step_of turned call_of (λ _. Unit {0}) (λ _ _ _. tt) call-each Valid (λ s v d. step-valid s v d) (λ _ _. tt) call-run

-- two ways to cut one stream
pub cut-anywhere : (s : State) → Valid s → (ps qs : List Piece) → AllLent ps → AllLent qs → digits_in_all ps ≡ digits_in_all qs
    → (left_by call_of s (calls_for_all call_of s ps) ≡ left_by call_of s (calls_for_all call_of s qs))
    × (said_by call_of 0 s (calls_for_all call_of s ps) ≡ said_by call_of 0 s (calls_for_all call_of s qs))
cut-anywhere = runs.cut-anywhere step_of turned call_of (λ _. Unit {0}) (λ _ _ _. tt) call-each Valid (λ s v d. step-valid s v d) (λ _ _. tt) call-run

-- from reset
pub fresh-stream : (ps : List Piece) → AllLent ps
    → (left_by call_of fresh_state (calls_for_all call_of fresh_state ps) ≡ since (digits_in_all ps))
    × (said_by call_of 0 fresh_state (calls_for_all call_of fresh_state ps) ≡ stops_of step_of turned 0 fresh_state (digits_in_all ps))
fresh-stream = as-the-stream fresh_state fresh-valid
