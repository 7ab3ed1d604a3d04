-- Laws of runs over digits (specs/Runs.antt), whatever the state and the step: a run is the history grown by the digits that it took; it passes
-- over no stop; two runs in turn are one; and calls in turn, wherever a stream was cut, leave the state and say the stops of the stream.
use mathlib.Core.Path.{◌≡◌, refl, sym, ap, ap₂, ◌∙◌}
use mathlib.Core.Bool.{Bool, cond, true, false, true≢false}
use mathlib.Core.Logic.{◌⊎◌, ⊎_elim}
use mathlib.Core.List.{List, [], ◌∷◌, ◌++◌, append_assoc, append-nil}
use Prim.Native.Nat.{ℕ, zero, suc, ◌+◌, ◌-◌, ◌*◌, ◌≤◌, ◌<◌}
use native.Mathlib.Omega.{arith}
use native.Mathlib.Numerals.{add-one}
use lib.ListN.{length, get_or, take, drop, length-take}
use lib.Seq.{length-take-le, take_all, take-nil, take-take, take-add, take-suc, drop-drop, drop-cons, get_or-drop}
use Rattle.digits.specs.Digits.{digits_of, Binary}
use Rattle.digits.specs.Runs.{heard, Run, run_of, stops_at, untouched, joined, Stop, stops_of}
use Rattle.digits.specs.Runs.{piece_of, Piece, digits_in, Lent, AllLent, digits_in_all, rest_of, left_by, taken_by, said_by, calls_for, calls_for_all}
use Rattle.digits.proofs.Laws.{digits-length, digits-binary}
use Rattle.digits.proofs.Lists.{binary-take}
use Rattle.digits.proofs.Tests.{cond-told}

-- ---- pieces

-- the next digit of a piece is its first
pub piece-step : (slice : List ℕ) (p end : ℕ) → p < end → end ≤ 8 * length slice
    → piece_of slice p (end - p) ≡ get_or (digits_of slice) p 0 ∷ piece_of slice (p + 1) (end - (p + 1))
piece-step slice p end h w =
    let e : end - p ≡ suc (end - (p + 1)) = omega arith in
    rw (e, add-one p, drop-cons (digits_of slice) p 0 (omega (arith, digits-length slice)))

pub piece-binary : (slice : List ℕ) (first count : ℕ) → Binary (piece_of slice first count)
piece-binary slice first count = binary-take count (drop first (digits_of slice)) (λ i. rw get_or-drop (digits-binary slice (first + i)))

-- a piece, cut anywhere
pub piece_cut : (slice : List ℕ) (first a b : ℕ) → piece_of slice first (a + b) ≡ piece_of slice first a ++ piece_of slice (first + a) b
piece_cut slice first a b = take-add a b (drop first (digits_of slice)) ∙ rw (drop-drop a first (digits_of slice))

-- what was taken of a piece, and its rest
pub piece-rest : (p : Piece) (taken : ℕ) → taken ≤ p.count → take taken (digits_in p) ++ digits_in (rest_of p taken) ≡ digits_in p
piece-rest p taken h =
    let ds = drop p.first (digits_of p.slice) in
    let all : taken + (p.count - taken) ≡ p.count = omega arith in
    ap₂ (λ (xs ys : List ℕ). xs ++ ys) (take-take taken p.count ds h)
    (ap (take (p.count - taken)) (sym (drop-drop taken p.first (digits_of p.slice))))
    ∙ sym (rw all at (take-add taken (p.count - taken) ds))

module _ {S : Type 0} (step : S → ℕ → S) where
  -- ---- histories

  pub heard-append : (s : S) (xs ys : List ℕ) → heard step s (xs ++ ys) ≡ heard step (heard step s xs) ys
  unfolding heard
  heard-append s [] ys = refl
  heard-append s (x ∷ xs) ys = heard-append (step s x) xs ys

  -- what every digit keeps, digits keep
  pub heard-kept : (P : S → Type 0) → ((s : S) → P s → (d : ℕ) → P (step s d)) → (ds : List ℕ) (s : S) → P s → P (heard step s ds)
  unfolding heard
  heard-kept P keeps [] s h = h
  heard-kept P keeps (d ∷ ds) s h = heard-kept P keeps ds (step s d) (keeps s h d)

  -- one digit more of a list
  pub heard-next : (s : S) (ds : List ℕ) (k : ℕ) → k < length ds → heard step s (take (suc k) ds) ≡ step (heard step s (take k ds)) (get_or ds k 0)
  unfolding heard
  heard-next s ds k h = rw (take-suc ds k 0 h) (heard-append s (take k ds) (get_or ds k 0 ∷ []))

  module _ (stops : S → S → Bool) where
    -- ---- a run: the state is that of the history grown by the digits taken; it stops where it is to, or else at the end

    pub record Ran (ds : List ℕ) (before : ℕ) (s : S) (r : Run S) : Type 0 where
      pub taken : ℕ
      pub counted : r.taken ≡ before + taken
      pub within : taken ≤ length ds
      pub state : r.state ≡ heard step s (take taken ds)
      pub at_stop : r.stopped ≡ true → (0 < taken) × ((k : ℕ) → suc k ≡ taken → stops_at step stops s ds k ≡ true)
      pub at_end : r.stopped ≡ false → taken ≡ length ds
      -- at no digit before the last was it to stop, nor at the last where it is said not to have stopped
      pub passed : (k : ℕ) → k < taken → (suc k ≡ taken → r.stopped ≡ false) → stops_at step stops s ds k ≡ false

    pub ran : (ds : List ℕ) (before : ℕ) (s : S) → Ran ds before s (run_of step stops ds before s)
    unfolding run_of heard
    ran [] before s =
        record {
          taken = 0;
          counted = omega arith;
          within = omega arith;
          state = refl;
          at_stop = λ e. absurd (true≢false (sym e));
          at_end = λ _. refl;
          passed = λ k hi _. absurd (none k hi);
        }
      where
        none : (k : ℕ) → k < 0 → ⊥
        none k hi = omega arith
    ran (d ∷ ds) before s =
        cond-told (Ran (d ∷ ds) before s) (stops s (step s d))
        (λ e. record {
          taken = 1;
          counted = omega arith;
          within = omega arith;
          state = refl;
          at_stop = λ _. (omega arith, λ k q. first k q e);
          at_end = λ q. absurd (true≢false q);
          passed = λ k hi q. absurd (true≢false (q (only k hi)));
        })
        (λ e. let r = ran ds (suc before) (step s d) in
        record {
          taken = suc r.taken;
          counted = omega (arith, r.counted);
          within = omega (arith, r.within);
          state = r.state;
          at_stop = λ q. (omega arith, λ k m. last r.taken (r.at_stop q) k m);
          at_end = λ q. ap suc (r.at_end q);
          passed = further e r;
        })
      where
        only : (k : ℕ) → k < 1 → suc k ≡ 1
        only k hi = omega arith

        rest : Run S
        rest = run_of step stops ds (suc before) (step s d)

        first : (k : ℕ) → suc k ≡ 1 → stops s (step s d) ≡ true → stops_at step stops s (d ∷ ds) k ≡ true
        first zero q e = e
        first (suc k) q e = absurd (omega arith)

        last : (n : ℕ) → (0 < n) × ((k : ℕ) → suc k ≡ n → stops_at step stops (step s d) ds k ≡ true)
            → (k : ℕ) → suc k ≡ suc n → stops_at step stops s (d ∷ ds) k ≡ true
        last n h zero q = absurd (over h.0)
          where
            over : 0 < n → ⊥
            over some = omega arith
        last n h (suc k) q = h.1 k (omega arith)

        further : stops s (step s d) ≡ false → (r : Ran ds (suc before) (step s d) rest)
            → (k : ℕ) → k < suc r.taken → (suc k ≡ suc r.taken → rest.stopped ≡ false) → stops_at step stops s (d ∷ ds) k ≡ false
        further e r zero hi q = e
        further e r (suc k) hi q = r.passed k (omega arith) (λ m. q (ap suc m))

    -- digits at none of which it stops only change the state
    pub run_past : (xs ys : List ℕ) (t : ℕ) (s : S) → ((k : ℕ) → k < length xs → stops_at step stops s xs k ≡ false)
        → run_of step stops (xs ++ ys) t s ≡ run_of step stops ys (t + length xs) (heard step s xs)
    unfolding run_of heard
    run_past [] ys t s none =
        let e : t + 0 ≡ t = omega arith in
        rw e
    run_past (x ∷ xs) ys t s none =
        let e : t + suc (length xs) ≡ suc t + length xs = omega arith in
        rw (none 0 (omega arith), e) (run_past xs ys (suc t) (step s x) (λ k h. none (suc k) (omega arith)))

    -- ---- two runs in turn are one

    -- a run after digits that were taken before
    abbrev onward : List ℕ → Run S → Run S
    onward ys r = cond r.stopped r (run_of step stops ys r.taken r.state)

    run-append : (xs ys : List ℕ) (t : ℕ) (s : S) → run_of step stops (xs ++ ys) t s ≡ onward ys (run_of step stops xs t s)
    unfolding run_of
    run-append [] ys t s = refl
    run-append (x ∷ xs) ys t s =
        one (stops s (step s x)) (run_of step stops (xs ++ ys) (suc t) (step s x)) (run_of step stops xs (suc t) (step s x))
        (run-append xs ys (suc t) (step s x))
      where
        here : Run S
        here = record { taken = suc t; stopped = true; state = step s x }

        one : (b : Bool) (u v : Run S) → u ≡ onward ys v → cond b here u ≡ onward ys (cond b here v)
        one true u v e = refl
        one false u v e = e

    -- the digits taken before only add up
    later : ℕ → Run S → Run S
    later k r = record { taken = k + r.taken; stopped = r.stopped; state = r.state }

    run-later : (ds : List ℕ) (k t : ℕ) (s : S) → run_of step stops ds (k + t) s ≡ later k (run_of step stops ds t s)
    unfolding run_of later
    run-later [] k t s = refl
    run-later (d ∷ ds) k t s =
        let e : suc (k + t) ≡ k + suc t = omega arith in
        rw e (one (stops s (step s d)) (run-later ds k (suc t) (step s d)))
      where
        one : (b : Bool) → run_of step stops ds (k + suc t) (step s d) ≡ later k (run_of step stops ds (suc t) (step s d))
            → cond b (record { taken = k + suc t; stopped = true; state = step s d }) (run_of step stops ds (k + suc t) (step s d))
            ≡ later k (cond b (record { taken = suc t; stopped = true; state = step s d }) (run_of step stops ds (suc t) (step s d)))
        one true q = refl
        one false q = q

    pub run-joined : (xs ys : List ℕ) (s : S)
        → run_of step stops (xs ++ ys) 0 s ≡ joined (run_of step stops xs 0 s) (run_of step stops ys 0 (run_of step stops xs 0 s).state)
    unfolding later
    run-joined xs ys s =
        let one = run_of step stops xs 0 s in
        let e : one.taken + 0 ≡ one.taken = omega arith in
        run-append xs ys 0 s ∙ ap (cond one.stopped one) (rw e at (run-later ys one.taken 0 one.state))

    -- ---- a run, and the stops of the digits that it took

    stops-append : (before : ℕ) (s : S) (xs ys : List ℕ)
        → stops_of step stops before s (xs ++ ys) ≡ stops_of step stops before s xs ++ stops_of step stops (before + length xs) (heard step s xs) ys
    unfolding stops_of heard
    stops-append before s [] ys =
        let e : before + 0 ≡ before = omega arith in
        rw e
    stops-append before s (x ∷ xs) ys =
        let e : before + 1 + length xs ≡ before + suc (length xs) = omega arith in
        ap (λ (said : List (Stop S)). here ++ said) (rw e at (stops-append (before + 1) (step s x) xs ys))
        ∙ sym (append_assoc here (stops_of step stops (before + 1) (step s x) xs) (stops_of step stops (before + suc (length xs)) (heard step (step s x) xs) ys))
      where
        here : List (Stop S)
        here = cond (stops s (step s x)) (record { after = before + 1; state = step s x } ∷ []) []

    abbrev said_in : ℕ → Run S → List (Stop S)
    said_in after r = cond r.stopped (record { after = after; state = r.state } ∷ []) []

    run-said : (ds : List ℕ) (t before : ℕ) (s : S) (m : ℕ) → (run_of step stops ds t s).taken ≡ t + m
        → said_in (before + m) (run_of step stops ds t s) ≡ stops_of step stops before s (take m ds)
    unfolding run_of stops_of
    run-said [] t before s m e = rw (take-nil {A = ℕ} m)
    run-said (d ∷ ds) t before s m e = by-stop (stops s (step s d)) refl (run-said ds (suc t) (before + 1) (step s d)) e
      where
        next : S
        next = step s d

        by-stop : (b : Bool) → stops s next ≡ b
            → ((n : ℕ) → (run_of step stops ds (suc t) next).taken ≡ suc t + n
            → said_in (before + 1 + n) (run_of step stops ds (suc t) next) ≡ stops_of step stops (before + 1) next (take n ds))
            → (cond b (record { taken = suc t; stopped = true; state = next }) (run_of step stops ds (suc t) next)).taken ≡ t + m
            → said_in (before + m) (cond b (record { taken = suc t; stopped = true; state = next }) (run_of step stops ds (suc t) next))
            ≡ stops_of step stops before s (take m (d ∷ ds))
        by-stop true q rest e =
            let one : m ≡ 1 = omega arith in
            rw (one, q)
        by-stop false q rest e =
            let r = ran ds (suc t) next in
            let n = m - 1 in
            let more : m ≡ suc n = omega (arith, r.counted) in
            let on : before + suc n ≡ before + 1 + n = omega arith in
            rw (more, q, on) (rest n (omega arith))

    -- ---- any calls whatever, refused ones too: from a state that is known, as every digit leaves it, each takes nothing or is the run over its digits

    module _ (call : S → Piece → Run S) (K : S → Type 0) (knows : (s : S) → K s → (d : ℕ) → K (step s d))
        (each : (s : S) → K s → (p : Piece) → (call s p ≡ untouched s) ⊎ (call s p ≡ run_of step stops (digits_in p) 0 s)) where
      -- one call: its state and what it says are those of the digits that it took
      pub record Answered (s : S) (p : Piece) (r : Run S) : Type 0 where
        pub within : r.taken ≤ length (digits_in p)
        pub state : r.state ≡ heard step s (take r.taken (digits_in p))
        pub said : (before : ℕ) → said_in (before + r.taken) r ≡ stops_of step stops before s (take r.taken (digits_in p))

      pub answered : (s : S) → K s → (p : Piece) → Answered s p (call s p)
      unfolding heard stops_of
      answered s known p = ⊎_elim (λ e. rw e none) (λ e. rw e run) (each s known p)
        where
          none : Answered s p (untouched s)
          none = record { within = omega arith; state = refl; said = λ _. refl }

          run : Answered s p (run_of step stops (digits_in p) 0 s)
          run =
              let r = ran (digits_in p) 0 s in
              let taken : (run_of step stops (digits_in p) 0 s).taken ≡ r.taken = omega (arith, r.counted) in
              record {
                within = omega (arith, r.within);
                state = r.state ∙ rw taken;
                said = λ before. run-said (digits_in p) 0 before s (run_of step stops (digits_in p) 0 s).taken (omega arith);
              }

      pub call_known : (s : S) → K s → (p : Piece) → K (call s p).state
      call_known s known p = rw (answered s known p).state (heard-kept K knows (take (call s p).taken (digits_in p)) s known)

      -- however a stream is cut into calls, and whatever they answer: the state that they leave and the stops that they say are those of the
      -- digits that they took
      pub as-taken : (ps : List Piece) (before : ℕ) (s : S) → K s
          → (left_by call s ps ≡ heard step s (taken_by call s ps)) × (said_by call before s ps ≡ stops_of step stops before s (taken_by call s ps))
      unfolding left_by taken_by said_by heard stops_of
      as-taken [] before s known = (refl, refl)
      as-taken (p ∷ ps) before s known =
          let one = answered s known p in
          let r = call s p in
          let xs = take r.taken (digits_in p) in
          let ys = taken_by call r.state ps in
          let rest = as-taken ps (before + r.taken) r.state (call_known s known p) in
          let size : length xs ≡ r.taken = length-take-le r.taken (digits_in p) one.within in (
            rest.0 ∙ rw (heard-append s xs ys, one.state),
            ap₂ (λ (a b : List (Stop S)). a ++ b) (one.said before) rest.1 ∙ rw (stops-append before s xs ys, size, one.state),
          )

      -- ---- a caller who goes on with the rest of each piece

      taken-append : (xs ys : List Piece) (s : S) → taken_by call s (xs ++ ys) ≡ taken_by call s xs ++ taken_by call (left_by call s xs) ys
      unfolding taken_by left_by
      taken-append [] ys s = refl
      taken-append (p ∷ ps) ys s =
          rw (taken-append ps ys (call s p).state)
          (sym (append_assoc (take (call s p).taken (digits_in p)) (taken_by call (call s p).state ps) (taken_by call (left_by call (call s p).state ps) ys)))

      -- a state from which every lent piece is accepted, and a digit keeps it so
      module _ (P : S → Type 0) (keeps : (s : S) → P s → (d : ℕ) → P (step s d)) (known : (s : S) → P s → K s)
          (accepts : (s : S) → P s → (p : Piece) → Lent p → call s p ≡ run_of step stops (digits_in p) 0 s) where
        pub left-kept : (s : S) → P s → (ps : List Piece) → P (left_by call s ps)
        left-kept s v ps = rw (as-taken ps 0 s (known s v)).0 (heard-kept P keeps (taken_by call s ps) s v)

        -- the calls for a piece take all its digits
        all-of-one : (n : ℕ) (s : S) → P s → (p : Piece) → Lent p → p.count ≤ n → taken_by call s (calls_for call n s p) ≡ digits_in p
        unfolding calls_for taken_by left_by
        all-of-one zero s v p lent few =
            let ds = digits_in p in
            append-nil (take (call s p).taken ds)
            ∙ take_all (call s p).taken ds (omega (arith, length-take p.count (drop p.first (digits_of p.slice))))
        all-of-one (suc n) s v p lent few =
            by-stop (call s p).stopped refl
            (λ some. all-of-one n (call s p).state (left-kept s v (p ∷ [])) (rest_of p k)
            (record { small = lent.small; within = omega (arith, lent.within, upto) }) (omega arith))
          where
            ds : List ℕ
            ds = digits_in p

            k : ℕ
            k = (call s p).taken

            r : Ran ds 0 s (call s p)
            r = rw (accepts s v p lent) (ran ds 0 s)

            upto : k ≤ p.count
            upto = omega (arith, r.counted, r.within, length-take p.count (drop p.first (digits_of p.slice)))

            by-stop : (b : Bool) → (call s p).stopped ≡ b
                → (0 < k → taken_by call (call s p).state (calls_for call n (call s p).state (rest_of p k)) ≡ digits_in (rest_of p k))
                → take k ds ++ taken_by call (call s p).state (cond b (calls_for call n (call s p).state (rest_of p k)) []) ≡ ds
            by-stop true e rest = ap (λ (xs : List ℕ). take k ds ++ xs) (rest (omega (arith, r.counted, (r.at_stop e).0))) ∙ piece-rest p k upto
            by-stop false e rest = append-nil (take k ds) ∙ take_all k ds (omega (arith, r.counted, r.at_end e))

        pub all-taken : (ps : List Piece) (s : S) → P s → AllLent ps → taken_by call s (calls_for_all call s ps) ≡ digits_in_all ps
        unfolding calls_for_all taken_by digits_in_all
        all-taken [] s v lent = refl
        all-taken (p ∷ ps) s v lent =
            let cs = calls_for call p.count s p in
            taken-append cs (calls_for_all call (left_by call s cs) ps) s
            ∙ ap₂ (λ (xs ys : List ℕ). xs ++ ys) (all-of-one p.count s v p lent.0 (omega arith)) (all-taken ps (left_by call s cs) (left-kept s v cs) lent.1)

        -- pieces fed one after another, each with its rest after a stop: the state and the stops are those of the stream of all their digits
        pub as-the-stream : (s : S) → P s → (ps : List Piece) → AllLent ps
            → (left_by call s (calls_for_all call s ps) ≡ heard step s (digits_in_all ps))
            × (said_by call 0 s (calls_for_all call s ps) ≡ stops_of step stops 0 s (digits_in_all ps))
        as-the-stream s v ps lent = rw (all-taken ps s v lent) at (as-taken (calls_for_all call s ps) 0 s (known s v))

        -- two ways to cut one stream
        pub cut-anywhere : (s : S) → P s → (ps qs : List Piece) → AllLent ps → AllLent qs → digits_in_all ps ≡ digits_in_all qs
            → (left_by call s (calls_for_all call s ps) ≡ left_by call s (calls_for_all call s qs))
            × (said_by call 0 s (calls_for_all call s ps) ≡ said_by call 0 s (calls_for_all call s qs))
        cut-anywhere s v ps qs lent lent' same =
            let one = as-the-stream s v ps lent in
            let two = as-the-stream s v qs lent' in
            (one.0 ∙ ap (heard step s) same ∙ sym two.0, one.1 ∙ ap (stops_of step stops 0 s) same ∙ sym two.1)
