-- What found and lost mean, of the public call: a call that says aligned where the state was not has just received the second of two words, with a
-- second digit of 1 between them, and one that says not aligned where it was has received three wrong words in a row.
use mathlib.Core.Path.{◌≡◌, refl, sym, ap, ◌∙◌}
use mathlib.Core.Bool.{Bool, true, false, not, true≢false}
use mathlib.Core.List.{List, [], ◌∷◌, ◌++◌, append_assoc}
use Prim.Native.Nat.{ℕ, zero, suc, ◌-◌, ◌<◌}
use native.Mathlib.Omega.{arith}
use lib.ListN.{length, get_or, take}
use lib.Seq.{take-suc, take_all}
use Rattle.digits.specs.Digits.{Binary}
use Rattle.digits.specs.Histories.{ago}
use Rattle.digits.specs.Runs.{piece_of}
use Rattle.digits.proofs.Lists.{binary-append, binary-take}
use Rattle.digits.proofs.Runs.{heard-append, Ran, ran, piece-binary}
use Rattle.finder_2048.specs.declared.State.{State}
use Rattle.finder_2048.specs.declared.Fed.{Fed}
use Rattle.finder_2048.specs.Modes.{aligned, step_of, differ, turned}
use Rattle.finder_2048.specs.Feed.{fresh_state, fed_by, run_from, feed_of}
use Rattle.finder_2048_promises.specs.History.{since, Found, Lost, ThreeWrong}
use Rattle.finder_2048_promises.proofs.Pieces.{feed-run, accepted-valid, answered, run-says}
use Rattle.finder_2048_promises.proofs.Traces.{found-since, lost-since}

module _ (ds : List ℕ) (bin : Binary ds) (slice : List ℕ) (first count : ℕ) (e : (feed_of (since ds) slice first count).refusal ≡ 0) where
  abbrev new : List ℕ
  new = piece_of slice first count

  abbrev fed : Fed
  fed = feed_of (since ds) slice first count

  -- the digit at which it stopped
  record Stopped : Type 0 where
    pub k : ℕ
    pub last : suc k ≡ fed.taken
    pub inside : k < length new
    pub turn : turned (since (ds ++ take k new)) (since (ds ++ take k new ++ (get_or new k 0 ∷ []))) ≡ true

  grown : (k : ℕ) → k < length new → take (suc k) new ≡ take k new ++ (get_or new k 0 ∷ [])
  grown k h = take-suc new k 0 h

  stopped : differ (aligned (since ds).mode) fed.aligned ≡ true → Stopped
  stopped turn = at fed.taken refl
    where
      r : Ran step_of turned new 0 (since ds) (run_from (since ds) new)
      r = ran step_of turned new 0 (since ds)

      is : fed ≡ fed_by (run_from (since ds) new)
      is = feed-run (since ds) slice first count (accepted-valid (since ds) slice first count e)

      stops : (run_from (since ds) new).stopped ≡ true
      stops = sym (run-says new 0 (since ds)) ∙ ap (differ (aligned (since ds).mode)) (sym (ap (λ (f : Fed). f.aligned) is)) ∙ turn

      taken : fed.taken ≡ r.taken
      taken = ap (λ (f : Fed). f.taken) is ∙ omega (arith, r.counted)

      at : (n : ℕ) → fed.taken ≡ n → Stopped
      at zero q = absurd (none (r.at_stop stops).0)
        where
          none : 0 < r.taken → ⊥
          none some = omega (arith, taken)
      at (suc k) q =
          let room : k < length new = omega (arith, taken, r.within) in
          record {
            k = k;
            last = sym q;
            inside = room;
            turn =
                rw (append_assoc ds (take k new) (get_or new k 0 ∷ []), ← grown k room, heard-append step_of fresh_state ds (take k new), heard-append step_of fresh_state ds (take (suc k) new))
                ((r.at_stop stops).1 k (omega (arith, taken)));
          }

  -- the history then, with all digits taken
  whole : (st : Stopped) → ds ++ take st.k new ++ (get_or new st.k 0 ∷ []) ≡ ds ++ take fed.taken new
  whole st = append_assoc ds (take st.k new) (get_or new st.k 0 ∷ []) ∙ rw (← st.last, grown st.k st.inside)

  binary : (st : Stopped) → Binary (ds ++ take st.k new ++ (get_or new st.k 0 ∷ []))
  binary st = rw (whole st) (binary-append ds (take fed.taken new) bin (binary-take fed.taken new (piece-binary slice first count)))

  -- what it says is said of the state after them
  says : (st : Stopped) → aligned (since (ds ++ take st.k new ++ (get_or new st.k 0 ∷ []))).mode ≡ fed.aligned
  says st =
      let r = answered (since ds) slice first count e in
      rw (whole st) (ap (λ (s : State). aligned s.mode) (heard-append step_of fresh_state ds (take fed.taken new) ∙ sym r.state) ∙ sym r.says)

  differ-was : (a b : Bool) → differ a b ≡ true → b ≡ true → a ≡ false
  differ-was true b h e = absurd (true≢false (sym h ∙ ap not e))
  differ-was false b h e = refl

  differ-then : (a b : Bool) → differ a b ≡ true → b ≡ false → a ≡ true
  differ-then true b h e = refl
  differ-then false b h e = absurd (true≢false (sym h ∙ e))

  pub feed-found : aligned (since ds).mode ≡ false → fed.aligned ≡ true → Found (ds ++ take fed.taken new)
  feed-found before after =
      let st = stopped (rw (before, after)) in
      let now = says st ∙ after in
      rw (whole st) at
      (found-since (ds ++ take st.k new) (get_or new st.k 0) (binary st)
      (differ-was (aligned (since (ds ++ take st.k new)).mode) (aligned (since (ds ++ take st.k new ++ (get_or new st.k 0 ∷ []))).mode) st.turn now) now)

  pub feed-lost : aligned (since ds).mode ≡ true → fed.aligned ≡ false → Lost (ds ++ take fed.taken new)
  feed-lost before after =
      let st = stopped (rw (before, after)) in
      let now = says st ∙ after in
      rw (whole st) at
      (lost-since (ds ++ take st.k new) (get_or new st.k 0) (binary st)
      (differ-then (aligned (since (ds ++ take st.k new)).mode) (aligned (since (ds ++ take st.k new ++ (get_or new st.k 0 ∷ []))).mode) st.turn now) now)

  -- the three words, one by one
  pub feed-three-wrong : aligned (since ds).mode ≡ true → fed.aligned ≡ false → ThreeWrong (ds ++ take fed.taken new)
  feed-three-wrong before after =
      let all = ds ++ take fed.taken new in
      let lost = feed-lost before after in
      record { third = λ came. lost 0 (omega arith) (rw (ago-none all) came); second = lost 1 (omega arith); first = lost 2 (omega arith) }
    where
      ago-none : (xs : List ℕ) → ago 0 xs ≡ xs
      ago-none xs = take_all (length xs - 0) xs (omega arith)
