-- Laws of digits in a hurry: a digit that does not end the hunt only moves the window; outside hunting the digits before the check only move the
-- window and the place; and what is left to do stays the same.
use mathlib.Core.Path.{◌≡◌, refl, sym, ap, subst, ◌∙◌}
use mathlib.Core.Bool.{Bool, true, false, true≢false}
use mathlib.Core.List.{List, [], ◌∷◌, ◌++◌}
use Prim.Native.Nat.{ℕ, zero, suc, ◌+◌, ◌*◌, ◌-◌, ◌^◌, ◌≤◌, ◌<◌, min}
use native.Mathlib.Omega.{arith}
use native.Mathlib.Nat.{add-zero}
use borrow.Author.Tests.{ltb-true, ltb-false, ne_eqb, le-ltb}
use lib.Dec.{eqb, ltb}
use lib.ListN.{length, get_or, take, drop, length-drop}
use lib.Seq.{length-take-le}
use Rattle.digits.specs.Digits.{digits_of}
use Rattle.digits.specs.Runs.{heard, run_of, stops_at, piece_of}
use Rattle.digits.proofs.Laws.{digits-length}
use Rattle.digits.proofs.Tests.{cond-told}
use Rattle.digits.proofs.Histories.{Recent, recent-more}
use Rattle.digits.proofs.Runs.{piece-step, piece_cut, run_past}
use Rattle.digits.proofs.ZeroLaws.{between-one}
use Rattle.strides.specs.Strides.{window_on, window_from, Passed}
use Rattle.finder_2048.specs.declared.Mode.{Mode}
use Rattle.finder_2048.specs.declared.Mode.TheVariants.{Hunting, WordFound, SecondSeen, Aligned}
use Rattle.finder_2048.specs.declared.State.{State}
use Rattle.finder_2048.specs.Modes.{word_number, hunting, aligned, window_of, seen_of, good, check_at, asks, place_after, after_digit, step_of, differ, turned}
use Rattle.finder_2048.specs.Feed.{Placed, Valid}
use Rattle.finder_2048.specs.Hurry.{still_hunting, window_over, Hurried}
use Rattle.finder_2048.proofs.Validity.{window-fits, step-valid}

-- ---- the hunt

-- a valid state that hunts is no more than its window and its digits seen
hunting-is : (mode : Mode) → hunting mode ≡ true → mode ≡ Hunting
hunting-is Hunting e = refl
hunting-is WordFound e = absurd (true≢false (sym e))
hunting-is SecondSeen e = absurd (true≢false (sym e))
hunting-is (Aligned m) e = absurd (true≢false (sym e))

hunting-rests : (mode : Mode) (p : ℕ) → hunting mode ≡ true → Placed mode p → p ≡ 0
hunting-rests Hunting p e h = h
hunting-rests WordFound p e h = absurd (true≢false (sym e))
hunting-rests SecondSeen p e h = absurd (true≢false (sym e))
hunting-rests (Aligned m) p e h = absurd (true≢false (sym e))

hunting-state : (s : State) → Valid s → hunting s.mode ≡ true → s ≡ still_hunting s.window s.seen
unfolding still_hunting
hunting-state s v h =
    same s.window s.seen (min s.seen 7) s.mode s.place (omega (arith, v.seen)) (hunting-is s.mode h) (hunting-rests s.mode s.place h v.place)
  where
    same : (w n n' : ℕ) (mode : Mode) (p : ℕ) → n ≡ n' → mode ≡ Hunting → p ≡ 0
        → ◌≡◌ {A = State} (record { window = w; seen = n; mode = mode; place = p }) (record { window = w; seen = n'; mode = Hunting; place = 0 })
    same w n n' mode p en em ep = rw (en, em, ep)

seen_one : (came : ℕ) → seen_of (min came 7) ≡ min (came + 1) 7
unfolding seen_of
seen_one came =
    cond-told (λ (n : ℕ). n ≡ min (came + 1) 7) (ltb (min came 7) 7)
    (λ e. omega (arith, ltb-true (min came 7) 7 e)) (λ e. omega (arith, ltb-false (min came 7) 7 e))

-- a digit after which the window is not the word
still-step : (w came d : ℕ) → good (window_of w d) ≡ false → step_of (still_hunting w came) d ≡ still_hunting (window_of w d) (came + 1)
unfolding step_of after_digit still_hunting place_after
still-step w came d bad =
    rw (bad, seen_one came)
    (cond-told (λ (s : State). s ≡ record { window = window_of w d; seen = min (came + 1) 7; mode = Hunting; place = 0 })
    (asks (min (came + 1) 7) Hunting 0) (λ _. refl) (λ _. refl))

still-unturned : (w came w' came' : ℕ) → turned (still_hunting w came) (still_hunting w' came') ≡ false
unfolding still_hunting
still-unturned w came w' came' = refl

-- such a digit is the first of a piece, and nothing is found or lost at it
run-still : (slice : List ℕ) (at end w came d taken : ℕ)
    → at < end → end ≤ 8 * length slice → d ≡ get_or (digits_of slice) at 0 → good (window_of w d) ≡ false
    → run_of step_of turned (piece_of slice at (end - at)) taken (still_hunting w came)
    ≡ run_of step_of turned (piece_of slice (at + 1) (end - (at + 1))) (suc taken) (still_hunting (window_of w d) (came + 1))
unfolding run_of
run-still slice at end w came d taken h within ed bad =
    rw (piece-step slice at end h within, ← ed, still-step w came d bad, still-unturned w came (window_of w d) (came + 1))

module _ (slice : List ℕ) (end p : ℕ) where
  hurried-none : (s : State) → Valid s → p < end → Hurried slice end p s p s
  hurried-none s v h =
      let none : p - p ≡ 0 = omega arith in
      record { valid = v; from = omega arith; before = h; same = λ taken. rw (none, nothing taken) }
    where
      nothing : (t : ℕ) → t + 0 ≡ t
      nothing t = omega arith

  hurried-begin : (s : State) → Valid s → hunting s.mode ≡ true → p < end
      → Hurried slice end p (still_hunting s.window s.seen) p (still_hunting s.window s.seen)
  hurried-begin s v e h = hurried-none (still_hunting s.window s.seen) (subst Valid (hunting-state s v e) v) h

  -- equal states, equal answers
  hurried-is : (s s₀ : State) (at : ℕ) (r s' : State) → s ≡ s₀ → r ≡ s' → Hurried slice end p s₀ at s' → Hurried slice end p s at r
  hurried-is s s₀ at r s' e e' h = rw (e, e') h

  hurried-more : (s₀ : State) (at w came d next : ℕ) → Hurried slice end p s₀ at (still_hunting w came)
      → at + 1 < end → end ≤ 8 * length slice → d ≡ get_or (digits_of slice) at 0 → next ≡ window_of w d → good next ≡ false
      → Hurried slice end p s₀ (at + 1) (still_hunting next (came + 1))
  hurried-more s₀ at w came d next h room within ed en bad =
      let bad' : good (window_of w d) ≡ false = rw en at bad in
      let step = still-step w came d bad' in
      record {
        valid = rw (en, ← step) (step-valid (still_hunting w came) h.valid d);
        from = omega (arith, h.from);
        before = room;
        same = λ taken.
            let t : taken + (at + 1 - p) ≡ suc (taken + (at - p)) = omega (arith, h.from) in
            h.same taken ∙ rw (en, t) (run-still slice at end w came d (taken + (at - p)) (omega arith) within ed bad');
      }

  -- many such digits
  hurried-many : (s₀ : State) (seen w : ℕ) → Hurried slice end p s₀ p (still_hunting w seen) → (n : ℕ) → p + n < end → end ≤ 8 * length slice
      → ((k : ℕ) → k < n → eqb (window_from 7 (digits_of slice) p w (suc k)) word_number ≡ false)
      → Hurried slice end p s₀ (p + n) (still_hunting (window_from 7 (digits_of slice) p w n) (seen + n))
  unfolding window_from window_on window_of good
  hurried-many s₀ seen w h zero room within bad = rw (add-zero p, add-zero seen) h
  hurried-many s₀ seen w h (suc n) room within bad =
      let a : p + suc n ≡ p + n + 1 = omega arith in
      let k : seen + suc n ≡ seen + n + 1 = omega arith in
      rw (a, k)
      (hurried-more s₀ (p + n) (window_from 7 (digits_of slice) p w n) (seen + n) (get_or (digits_of slice) (p + n) 0) (window_from 7 (digits_of slice) p w (suc n))
      (hurried-many s₀ seen w h n (omega arith) within (λ k hk. bad k (omega arith))) (omega arith) within refl refl (bad n (omega arith)))

  -- a hunt from a valid state that hunts, by what it passed
  pub hurried-passed : (s : State) (at w' : ℕ) → Valid s → hunting s.mode ≡ true → end ≤ 8 * length slice
      → Passed 7 word_number (digits_of slice) end p s.window at w' → (r : State) → r ≡ still_hunting w' (s.seen + (at - p)) → Hurried slice end p s at r
  hurried-passed s at w' v e within h r er =
      let there : p + (at - p) ≡ at = omega (arith, h.from) in
      let begun = hurried-begin s v e (omega (arith, h.from, h.before)) in
      let many = hurried-many (still_hunting s.window s.seen) s.seen s.window begun (at - p) (omega (arith, h.from, h.before)) within h.missed in
      hurried-is s (still_hunting s.window s.seen) at r (still_hunting (window_from 7 (digits_of slice) p s.window (at - p)) (s.seen + (at - p)))
      (hunting-state s v e) (er ∙ ap (λ (w : ℕ). still_hunting w (s.seen + (at - p))) h.window) (rw there at many)

-- ---- outside hunting

-- a place is before its check
pub placed-check : (mode : Mode) (p : ℕ) → hunting mode ≡ false → Placed mode p → p < check_at mode
placed-check Hunting p h q = absurd (true≢false h)
placed-check WordFound p h q = q
placed-check SecondSeen p h q = q.1
placed-check (Aligned m) p h q = q

placed_on : (mode : Mode) (p n : ℕ) → hunting mode ≡ false → Placed mode p → p + n < check_at mode → Placed mode (p + n)
placed_on Hunting p n h q r = absurd (true≢false h)
placed_on WordFound p n h q r = r
placed_on SecondSeen p n h q r = (omega (arith, q.0), r)
placed_on (Aligned m) p n h q r = r

seen-stays : (n : ℕ) → 7 ≤ n → seen_of n ≡ n
unfolding seen_of
seen-stays n h = rw (le-ltb n 7 h)

abbrev pub carried : State → List ℕ → State
carried s xs = record { window = window_over s.window xs; seen = s.seen; mode = s.mode; place = s.place + length xs }

-- a digit before the check
carried_step : (s : State) (d : ℕ) → hunting s.mode ≡ false → 7 ≤ s.seen → s.place + 1 < check_at s.mode
    → step_of s d ≡ record { window = window_of s.window d; seen = s.seen; mode = s.mode; place = s.place + 1 }
unfolding step_of after_digit asks place_after
carried_step s d h came room =
    rw (h, ne_eqb (s.place + 1) (check_at s.mode) (λ q. omega arith), seen-stays s.seen came)

pub heard-carried : (xs : List ℕ) (s : State) → hunting s.mode ≡ false → 7 ≤ s.seen → s.place + length xs < check_at s.mode
    → heard step_of s xs ≡ carried s xs
unfolding heard window_over
heard-carried [] s h came room =
    let e : s.place + 0 ≡ s.place = omega arith in
    rw e
heard-carried (x ∷ xs) s h came room =
    let e : s.place + 1 + length xs ≡ s.place + suc (length xs) = omega arith in
    rw (carried_step s x h came (omega arith))
    (heard-carried xs (record { window = window_of s.window x; seen = s.seen; mode = s.mode; place = s.place + 1 }) h came (omega arith) ∙ rw e)

differ_same : (b : Bool) → differ b b ≡ false
differ_same true = refl
differ_same false = refl

carried-unturned : (xs : List ℕ) (s : State) → hunting s.mode ≡ false → 7 ≤ s.seen → s.place + length xs < check_at s.mode
    → (k : ℕ) → k < length xs → stops_at step_of turned s xs k ≡ false
carried-unturned xs s h came room k hk =
    rw (
      heard-carried (take k xs) s h came (omega (arith, length-take-le k xs (omega arith))),
      heard-carried (take (suc k) xs) s h came (omega (arith, length-take-le (suc k) xs (omega arith))),
    )
    (differ_same (aligned s.mode))

-- the window after digits

over-fits : (xs : List ℕ) (w : ℕ) → w < 2 ^ 7 → window_over w xs < 2 ^ 7
unfolding window_over
over-fits [] w h = h
over-fits (x ∷ xs) w h = over-fits xs (window_of w x) (window-fits w x)

pub recent-one : (w d : ℕ) (past : List ℕ) → d < 2 → Recent 7 w past → Recent 7 (window_of w d) (past ++ (d ∷ []))
unfolding window_of
recent-one w d past h t = recent-more 7 w past d (omega arith) h t

over-one : (xs : List ℕ) (w d : ℕ) → window_over w (xs ++ (d ∷ [])) ≡ window_of (window_over w xs) d
unfolding window_over
over-one [] w d = refl
over-one (x ∷ xs) w d = over-one xs (window_of w x) d

over-from : (slice : List ℕ) (p n w : ℕ) → p + n ≤ 8 * length slice → window_over w (piece_of slice p n) ≡ window_from 7 (digits_of slice) p w n
unfolding window_over window_from window_on window_of
over-from slice p zero w h = refl
over-from slice p (suc n) w h =
    let more : suc n ≡ n + 1 = omega arith in
    let one : p + n + 1 - (p + n) ≡ 1 = omega arith in
    let last : piece_of slice (p + n) 1 ≡ get_or (digits_of slice) (p + n) 0 ∷ [] = rw one at (between-one slice (p + n) (omega arith)) in
    ap (λ (k : ℕ). window_over w (piece_of slice p k)) more
    ∙ rw (piece_cut slice p n 1, last) (over-one (piece_of slice p n) w (get_or (digits_of slice) (p + n) 0) ∙ rw (over-from slice p n w (omega arith)))

pub hurried-carry : (slice : List ℕ) (end p : ℕ) (s : State) (n w : ℕ) → Valid s → hunting s.mode ≡ false → p + n < end → end ≤ 8 * length slice
    → s.place + n < check_at s.mode → w ≡ window_from 7 (digits_of slice) p s.window n
    → Hurried slice end p s (p + n) (record { window = w; seen = s.seen; mode = s.mode; place = s.place + n })
hurried-carry slice end p s n w v h before within room ew =
    record {
      valid = record {
        window = rw (window-is) (over-fits xs s.window v.window);
        seen = v.seen;
        missed = v.missed;
        place = placed_on s.mode s.place n h v.place room;
        came = v.came;
      };
      from = omega arith;
      before = before;
      same = same;
    }
  where
    xs : List ℕ
    xs = piece_of slice p n

    ys : List ℕ
    ys = piece_of slice (p + n) (end - (p + n))

    size : length xs ≡ n
    size = length-take-le n (drop p (digits_of slice)) (omega (arith, length-drop p (digits_of slice), digits-length slice))

    window-is : w ≡ window_over s.window xs
    window-is = ew ∙ sym (over-from slice p n s.window (omega arith))

    same : (taken : ℕ) → run_of step_of turned (piece_of slice p (end - p)) taken s
        ≡ run_of step_of turned ys (taken + (p + n - p)) (record { window = w; seen = s.seen; mode = s.mode; place = s.place + n })
    same taken =
        let cut : end - p ≡ n + (end - (p + n)) = omega arith in
        let some : p + n - p ≡ n = omega arith in
        let fits : s.place + length xs < check_at s.mode = rw size room in
        rw (cut, piece_cut slice p n (end - (p + n)), some, window-is)
        (run_past step_of turned xs ys taken s (carried-unturned xs s h (v.came h) fits)
        ∙ rw (heard-carried xs s h (v.came h) fits, size))
