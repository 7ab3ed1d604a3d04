-- When frames are handed over: three good words, N digits apart, come first; a frame is ready exactly if the mode is aligned at
-- its last digit; the fourth missed word in a row ends it; and the hunt finds a word that was half received at a failed check.
use mathlib.Core.Path.{◌≡◌, refl, sym, ap, ap₂, ◌∙◌}
use mathlib.Core.Bool.{Bool, true, false, ◌&&◌, true≢false}
use mathlib.Core.List.{List, [], ◌∷◌}
use Prim.Native.Nat.{ℕ, suc, ◌+◌, ◌-◌, ◌≤◌, ◌<◌}
use native.Mathlib.Omega.{arith}
use borrow.Author.Tests.{eqb-true, eq-eqb, ne_eqb}
use lib.Dec.{eqb}
use lib.ListN.{length}
use Rattle.digits.specs.Runs as runs
use Rattle.table.specs.declared.Row.{Row}
use Rattle.modes.specs.declared.Mode.{Mode}
use Rattle.modes.specs.declared.Mode.TheVariants.{Hunting, OneFound, TwoFound, Aligned}
use Rattle.receiver.specs.declared.State.{State}
use Rattle.modes.specs.Modes.{hunting, seen_of, good, asks, judged, place_after, after_digit, step_of}
use Rattle.pieces.specs.Frame.{aligned, ready_of}
use Rattle.receiver.specs.Feed.{core_of, after_of}
use Rattle.receiver_promises.specs.History.{heard}
use Rattle.digits.proofs.Tests.{cond-told, and_both}

-- ---- one digit, where the word is asked for and where it is not

module _ (row : Row) (s : State) (d : ℕ) where
  abbrev pub asked : Bool
  asked = asks row (seen_of row s.seen) s.mode s.place

  pub after_on : asked ≡ false → ((after_of row s d).mode ≡ s.mode) × ((after_of row s d).place ≡ place_after s.mode s.place)
  unfolding after_of step_of after_digit
  after_on e = rw e (refl, refl)

  pub after_turn : asked ≡ true
      → ((after_of row s d).mode ≡ judged s.mode (good row (after_of row s d).window)) × ((after_of row s d).place ≡ 0)
  unfolding after_of step_of after_digit
  after_turn e = rw e (refl, refl)

pub asks-held : (row : Row) (n : ℕ) (mode : Mode) (p : ℕ) → hunting mode ≡ false → asks row n mode p ≡ eqb (p + 1) row.digits
unfolding asks
asks-held row n mode p h = rw h

pub up_one : (mode : Mode) (p : ℕ) → hunting mode ≡ false → place_after mode p ≡ p + 1
unfolding place_after
up_one mode p h = rw h

-- ---- the digits between two words

module _ (row : Row) where
  -- outside hunting the mode stays until the place comes to N
  pub rises : (es : List ℕ) (s : State) → hunting s.mode ≡ false → s.place + length es < row.digits
      → ((heard row s es).mode ≡ s.mode) × ((heard row s es).place ≡ s.place + length es)
  unfolding runs.heard
  rises [] s h room = (refl, omega arith)
  rises (e ∷ es) s h room =
      let before : asks row (seen_of row s.seen) s.mode s.place ≡ false =
      asks-held row (seen_of row s.seen) s.mode s.place h ∙ ne_eqb (s.place + 1) row.digits (λ q. omega arith) in
      let step = after_on row s e before in
      let up : (after_of row s e).place ≡ s.place + 1 = step.1 ∙ up_one s.mode s.place h in
      let rest = rises es (after_of row s e) (rw step.0 h) (omega arith) in
      (rest.0 ∙ step.0, omega (arith, rest.1))

  -- at N the word is judged
  arrives : (e : ℕ) (es : List ℕ) (s : State) → hunting s.mode ≡ false → s.place + suc (length es) ≡ row.digits
      → ((heard row s (e ∷ es)).mode ≡ judged s.mode (good row (heard row s (e ∷ es)).window)) × ((heard row s (e ∷ es)).place ≡ 0)
  unfolding runs.heard
  arrives e [] s h end =
      after_turn row s e
      (asks-held row (seen_of row s.seen) s.mode s.place h ∙ eq-eqb (s.place + 1) row.digits (omega arith))
  arrives e (e' ∷ es) s h end =
      let before : asks row (seen_of row s.seen) s.mode s.place ≡ false =
      asks-held row (seen_of row s.seen) s.mode s.place h ∙ ne_eqb (s.place + 1) row.digits (λ q. omega arith) in
      let step = after_on row s e before in
      let up : (after_of row s e).place ≡ s.place + 1 = step.1 ∙ up_one s.mode s.place h in
      let rest = arrives e' es (after_of row s e) (rw step.0 h) (omega arith) in
      (rest.0 ∙ ap (λ (m : Mode). judged m (good row (heard row s (e ∷ e' ∷ es)).window)) step.0, rest.1)

  -- a frame: N digits from a word on
  pub frame-end : (s : State) → hunting s.mode ≡ false → s.place ≡ 0 → (es : List ℕ) → length es ≡ row.digits → 0 < row.digits
      → ((heard row s es).mode ≡ judged s.mode (good row (heard row s es).window)) × ((heard row s es).place ≡ 0)
  frame-end s h z [] l some = absurd (omega arith)
  frame-end s h z (e ∷ es) l some = arrives e es s h (omega arith)

  -- in it a frame is ready after N - L digits, and exactly if the mode is aligned
  pub frame-ready : (s : State) → hunting s.mode ≡ false → s.place ≡ 0 → (es : List ℕ) → length es < row.digits
      → ready_of row (core_of (heard row s es)) ≡ (aligned s.mode && eqb (length es) (row.digits - row.len))
  unfolding ready_of
  frame-ready s h z es room =
      let at = rises es s h (omega arith) in
      let p : (heard row s es).place ≡ length es = omega (arith, at.1) in
      rw (at.0, p)

  -- ---- missed words

  -- the first, second and third word missed in a row leave it aligned: its frame is handed over
  pub missed-on : (m : ℕ) → m ≤ 2 → (s : State) → s.mode ≡ Aligned m → s.place ≡ 0 → (es : List ℕ) → length es ≡ row.digits → 0 < row.digits
      → good row (heard row s es).window ≡ false → ((heard row s es).mode ≡ Aligned (m + 1)) × ((heard row s es).place ≡ 0)
  missed-on m few s e z es l some bad =
      let end = frame-end s (rw e) z es l some in
      (end.0 ∙ ap₂ judged e bad ∙ rw (ne_eqb (m + 1) 4 (λ q. omega arith)), end.1)

  -- the fourth does not
  pub missed-out : (s : State) → s.mode ≡ Aligned 3 → s.place ≡ 0 → (es : List ℕ) → length es ≡ row.digits → 0 < row.digits
      → good row (heard row s es).window ≡ false → (heard row s es).mode ≡ Hunting
  missed-out s e z es l some bad = (frame-end s (rw e) z es l some).0 ∙ ap₂ judged e bad

  -- ---- from hunting no frame is ready in the first 2N + N - L digits

  -- n digits after hunting
  abbrev Since : ℕ → Mode → ℕ → Type 0
  Since n Hunting p = Unit {0}
  Since n OneFound p = p + 1 ≤ n
  Since n TwoFound p = row.digits + p + 1 ≤ n
  Since n (Aligned m) p = row.digits + row.digits + p + 1 ≤ n

  since-up : (n : ℕ) (mode : Mode) (p : ℕ) → Since n mode p → Since (suc n) mode (place_after mode p)
  unfolding place_after
  since-up n Hunting p h = tt
  since-up n OneFound p h = omega arith
  since-up n TwoFound p h = omega arith
  since-up n (Aligned m) p h = omega arith

  since-turn : (n : ℕ) (mode : Mode) (p : ℕ) (g : Bool) → (hunting mode ≡ false → p + 1 ≡ row.digits) → Since n mode p → Since (suc n) (judged mode g) 0
  since-turn n Hunting p g at h = cond-told (λ (m : Mode). Since (suc n) m 0) g (λ _. omega arith) (λ _. tt)
  since-turn n OneFound p g at h = cond-told (λ (m : Mode). Since (suc n) m 0) g (λ _. omega (arith, at refl)) (λ _. tt)
  since-turn n TwoFound p g at h = cond-told (λ (m : Mode). Since (suc n) m 0) g (λ _. omega (arith, at refl)) (λ _. tt)
  since-turn n (Aligned m) p g at h =
      cond-told (λ (m : Mode). Since (suc n) m 0) g (λ _. omega arith)
      (λ _. cond-told (λ (m : Mode). Since (suc n) m 0) (eqb (m + 1) 4) (λ _. tt) (λ _. omega arith))

  -- where the word is asked for outside hunting, the place has come to N
  pub asked-at : (n : ℕ) (mode : Mode) (p : ℕ) → asks row n mode p ≡ true → hunting mode ≡ false → p + 1 ≡ row.digits
  asked-at n mode p e h = eqb-true (p + 1) row.digits (sym (asks-held row n mode p h) ∙ e)

  since-one : (n : ℕ) (s : State) (d : ℕ) → Since n s.mode s.place → Since (suc n) (after_of row s d).mode (after_of row s d).place
  since-one n s d h = by-asked (asks row (seen_of row s.seen) s.mode s.place) refl
    where
      by-asked : (b : Bool) → asks row (seen_of row s.seen) s.mode s.place ≡ b
          → Since (suc n) (after_of row s d).mode (after_of row s d).place
      by-asked true e =
          rw ((after_turn row s d e).0, (after_turn row s d e).1)
          (since-turn n s.mode s.place (good row (after_of row s d).window) (asked-at (seen_of row s.seen) s.mode s.place e) h)
      by-asked false e = rw ((after_on row s d e).0, (after_on row s d e).1) (since-up n s.mode s.place h)

  since-all : (es : List ℕ) (n : ℕ) (s : State) → Since n s.mode s.place → Since (n + length es) (heard row s es).mode (heard row s es).place
  unfolding runs.heard
  since-all [] n s h =
      let e : n + 0 ≡ n = omega arith in
      rw e h
  since-all (d ∷ es) n s h =
      let e : n + suc (length es) ≡ suc n + length es = omega arith in
      rw e (since-all es (suc n) (after_of row s d) (since-one n s d h))

  pub not-before : (s : State) → s.mode ≡ Hunting → (es : List ℕ) → ready_of row (core_of (heard row s es)) ≡ true
      → row.digits + row.digits + (row.digits - row.len) + 1 ≤ length es
  unfolding ready_of
  not-before s e es r =
      let both = and_both (aligned (heard row s es).mode) (eqb (heard row s es).place (row.digits - row.len)) r in
      let at = eqb-true (heard row s es).place (row.digits - row.len) both.1 in
      let start : Since 0 s.mode s.place = rw e tt in
      let n : 0 + length es ≡ length es = omega arith in
      last (heard row s es).mode both.0 (rw (at, n) at (since-all es 0 s start))
    where
      last : (mode : Mode) → aligned mode ≡ true → Since (length es) mode (row.digits - row.len)
          → row.digits + row.digits + (row.digits - row.len) + 1 ≤ length es
      last Hunting q h = absurd (true≢false (sym q))
      last OneFound q h = absurd (true≢false (sym q))
      last TwoFound q h = absurd (true≢false (sym q))
      last (Aligned m) q h = h
