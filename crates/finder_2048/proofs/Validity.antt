-- Validity: a state is not refused with 6 exactly if each item holds, and a digit keeps it so.
use mathlib.Core.Path.{◌≡◌, refl, ap}
use mathlib.Core.Bool.{Bool, cond, true, false, not, ◌&&◌, ◌||◌, true≢false}
use Prim.Native.Nat.{ℕ, ◌+◌, ◌*◌, ◌^◌, ◌≤◌, ◌<◌}
use native.Mathlib.Omega.{arith}
use native.Mathlib.Nat.{mod-lt}
use borrow.Author.Tests.{ltb-true, ltb-false, leb-true, leb-false, eqb-true, eqb-false, lt-leb, le-ltb, eq-eqb}
use lib.Dec.{eqb, ltb, leb}
use lib.Pow.{pow_pos}
use Rattle.digits.proofs.Tests.{cond-told, or-neither, and-asked, not-true}
use Rattle.finder_2048.specs.declared.Mode.{Mode}
use Rattle.finder_2048.specs.declared.Mode.TheVariants.{Hunting, WordFound, SecondSeen, Aligned}
use Rattle.finder_2048.specs.declared.State.{State}
use Rattle.finder_2048.specs.Modes.{hunting, missed, window_of, seen_of, check_at, asks, passes, judged, place_then, place_after, after_digit, step_of}
use Rattle.finder_2048.specs.Feed.{fresh_state, misplaced, invalid, refusal_of, Placed, Valid}

-- ---- not refused with 6 is valid

placed-if : (mode : Mode) (p : ℕ) → misplaced mode p ≡ false → Placed mode p
placed-if Hunting p e = eqb-true p 0 (not-true (eqb p 0) e)
placed-if WordFound p e = leb-false 250 p e
placed-if SecondSeen p e = let both = or-neither (ltb p 250) (leb 512 p) e in (ltb-false p 250 both.0, leb-false 512 p both.1)
placed-if (Aligned m) p e = leb-false 512 p e

placed-only : (mode : Mode) (p : ℕ) → Placed mode p → misplaced mode p ≡ false
placed-only Hunting p h = rw (eq-eqb p 0 h)
placed-only WordFound p h = lt-leb 250 p h
placed-only SecondSeen p h = rw (le-ltb p 250 h.0, lt-leb 512 p h.1)
placed-only (Aligned m) p h = lt-leb 512 p h

-- every place is one of two frames
pub placed-under : (mode : Mode) (p : ℕ) → Placed mode p → p < 512
placed-under Hunting p h = omega arith
placed-under WordFound p h = omega arith
placed-under SecondSeen p h = h.1
placed-under (Aligned m) p h = h

module _ (s : State) where
  pub valid-if : invalid s ≡ false → Valid s
  unfolding invalid
  valid-if e =
      let a = leb (2 ^ 7) s.window in
      let b = ltb 7 s.seen in
      let c = ltb 2 (missed s.mode) in
      let d = misplaced s.mode s.place in
      let h4 = or-neither (a || b || c || d) (not (hunting s.mode) && ltb s.seen 7) e in
      let h3 = or-neither (a || b || c) d h4.0 in
      let h2 = or-neither (a || b) c h3.0 in
      let h1 = or-neither a b h2.0 in
      record {
        window = leb-false (2 ^ 7) s.window h1.0;
        seen = ltb-false 7 s.seen h1.1;
        missed = ltb-false 2 (missed s.mode) h2.1;
        place = placed-if s.mode s.place h3.1;
        came = λ h. ltb-false s.seen 7 (and-asked (not (hunting s.mode)) (ltb s.seen 7) h4.1 (ap not h));
      }

  pub valid-only : Valid s → invalid s ≡ false
  unfolding invalid
  valid-only v =
      rw (lt-leb (2 ^ 7) s.window v.window, le-ltb 7 s.seen v.seen, le-ltb 2 (missed s.mode) v.missed, placed-only s.mode s.place v.place)
      (last (hunting s.mode) v.came)
    where
      last : (h : Bool) → (h ≡ false → 7 ≤ s.seen) → (not h && ltb s.seen 7) ≡ false
      last true came = refl
      last false came = le-ltb s.seen 7 (came refl)

-- ---- what an accepted call says

pub record Accepted (s : State) (bytes first count : ℕ) : Type 0 where
  pub valid : Valid s
  pub small : bytes ≤ 65536
  pub within : first + count ≤ 8 * bytes

pub accepted-if : (s : State) (bytes first count : ℕ) → refusal_of s bytes first count ≡ 0 → Accepted s bytes first count
unfolding refusal_of
accepted-if s bytes first count =
    cond-told (λ (n : ℕ). n ≡ 0 → Accepted s bytes first count) (invalid s) (λ _ h. absurd (omega arith))
    (λ v. cond-told (λ (n : ℕ). n ≡ 0 → Accepted s bytes first count) (ltb 65536 bytes) (λ _ h. absurd (omega arith))
    (λ b. cond-told (λ (n : ℕ). n ≡ 0 → Accepted s bytes first count) (ltb (8 * bytes) (first + count)) (λ _ h. absurd (omega arith))
    (λ w _. record { valid = valid-if s v; small = ltb-false 65536 bytes b; within = ltb-false (8 * bytes) (first + count) w })))

pub accepted-only : (s : State) (bytes first count : ℕ) → Accepted s bytes first count → refusal_of s bytes first count ≡ 0
unfolding refusal_of
accepted-only s bytes first count a =
    rw (valid-only s a.valid, le-ltb 65536 bytes a.small, le-ltb (8 * bytes) (first + count) a.within)

-- ---- a fresh state is valid, and a digit keeps a state so

pub fresh-valid : Valid fresh_state
fresh-valid =
    record { window = omega arith; seen = omega arith; missed = omega arith; place = refl; came = λ e. absurd (true≢false e) }

pub window-fits : (w d : ℕ) → window_of w d < 2 ^ 7
unfolding window_of
window-fits w d = mod-lt (w * 2 + d) (pow_pos 7)

seen-fits : (n : ℕ) → n ≤ 7 → seen_of n ≤ 7
unfolding seen_of
seen-fits n h = cond-told (λ (k : ℕ). k ≤ 7) (ltb n 7) (λ e. omega (arith, ltb-true n 7 e)) (λ _. h)

pub seen-grows : (n : ℕ) → n ≤ seen_of n
unfolding seen_of
seen-grows n = cond-told (λ (k : ℕ). n ≤ k) (ltb n 7) (λ _. omega arith) (λ _. omega arith)

judged-missed : (mode : Mode) (g : Bool) → missed mode ≤ 2 → missed (judged mode g) ≤ 2
judged-missed Hunting g h = cond-told (λ (m : Mode). missed m ≤ 2) g (λ _. omega arith) (λ _. omega arith)
judged-missed WordFound g h = cond-told (λ (m : Mode). missed m ≤ 2) g (λ _. omega arith) (λ _. omega arith)
judged-missed SecondSeen g h = cond-told (λ (m : Mode). missed m ≤ 2) g (λ _. omega arith) (λ _. omega arith)
judged-missed (Aligned m) g h =
    cond-told (λ (m : Mode). missed m ≤ 2) g (λ _. omega arith)
    (λ _. cond-told (λ (m : Mode). missed m ≤ 2) (eqb (m + 1) 3) (λ _. omega arith) (λ e. few (eqb-false (m + 1) 3 e)))
  where
    few : (m + 1 ≡ 3 → ⊥) → m + 1 ≤ 2
    few n = omega arith

then-placed : (mode : Mode) → Placed mode (place_then mode)
then-placed Hunting = refl
then-placed WordFound = omega arith
then-placed SecondSeen = (omega arith, omega arith)
then-placed (Aligned m) = omega arith

-- where no rule looks, the place stays one of the mode
after-placed : (mode : Mode) (p : ℕ) → Placed mode p → (hunting mode ≡ false → p + 1 ≡ check_at mode → ⊥) → Placed mode (place_after mode p)
unfolding place_after
after-placed Hunting p h no-check = refl
after-placed WordFound p h no-check = below (no-check refl)
  where
    below : (p + 1 ≡ 250 → ⊥) → p + 1 < 250
    below n = omega arith
after-placed SecondSeen p h no-check = (omega (arith, h.0), below (no-check refl) h.1)
  where
    below : (p + 1 ≡ 512 → ⊥) → p < 512 → p + 1 < 512
    below n q = omega arith
after-placed (Aligned m) p h no-check = below (no-check refl)
  where
    below : (p + 1 ≡ 512 → ⊥) → p + 1 < 512
    below n = omega arith

module _ (s : State) (v : Valid s) (d : ℕ) where
  abbrev asked : Bool
  asked = asks (seen_of s.seen) s.mode s.place

  -- where a rule looks, at least seven digits came
  pub asked-came : asked ≡ true → 7 ≤ seen_of s.seen
  unfolding asks
  asked-came e = by-hunt (hunting s.mode) refl e
    where
      by-hunt : (h : Bool) → hunting s.mode ≡ h → cond h (leb 7 (seen_of s.seen)) (eqb (s.place + 1) (check_at s.mode)) ≡ true → 7 ≤ seen_of s.seen
      by-hunt true eh t = leb-true 7 (seen_of s.seen) t
      by-hunt false eh t = omega (arith, v.came eh, seen-grows s.seen)

  -- where it does not, the place has not come to the check
  no-check : asked ≡ false → hunting s.mode ≡ false → s.place + 1 ≡ check_at s.mode → ⊥
  unfolding asks
  no-check e h = eqb-false (s.place + 1) (check_at s.mode) (rw h at e)

  pub step-valid : Valid (step_of s d)
  unfolding step_of after_digit
  step-valid =
      cond-told Valid asked
      (λ e. record {
        window = window-fits s.window d;
        seen = seen-fits s.seen v.seen;
        missed = judged-missed s.mode (passes s.mode (window_of s.window d) d) v.missed;
        place = then-placed (judged s.mode (passes s.mode (window_of s.window d) d));
        came = λ h. asked-came e;
      })
      (λ e. record {
        window = window-fits s.window d;
        seen = seen-fits s.seen v.seen;
        missed = v.missed;
        place = after-placed s.mode s.place v.place (no-check e);
        came = λ h. omega (arith, v.came h, seen-grows s.seen);
      })
