-- One digit, where a rule looks and where it does not; and the digits between two checks.
use mathlib.Core.Path.{◌≡◌, refl, sym, ap, ◌∙◌}
use mathlib.Core.Bool.{Bool, true, false}
use mathlib.Core.List.{List, [], ◌∷◌, ◌++◌}
use Prim.Native.Nat.{ℕ, suc, ◌+◌}
use native.Mathlib.Omega.{arith}
use borrow.Author.Tests.{eqb-true, eq-eqb}
use lib.Dec.{eqb}
use lib.ListN.{length}
use Rattle.digits.specs.Runs.{heard}
use Rattle.digits.proofs.Runs.{heard-append}
use Rattle.digits.proofs.Tests.{cond-told}
use Rattle.finder_2048.specs.declared.Mode.{Mode}
use Rattle.finder_2048.specs.declared.State.{State}
use Rattle.finder_2048.specs.Modes.{hunting, window_of, seen_of, check_at, asks, passes, judged, place_then, place_after, after_digit, step_of}
use Rattle.finder_2048.specs.Feed.{Valid}
use Rattle.finder_2048.proofs.Hurries.{heard-carried}

-- ---- one digit

module _ (s : State) (d : ℕ) where
  abbrev pub asked : Bool
  asked = asks (seen_of s.seen) s.mode s.place

  pub after_on : asked ≡ false → ((step_of s d).mode ≡ s.mode) × ((step_of s d).place ≡ place_after s.mode s.place)
  unfolding step_of after_digit
  after_on e = rw e (refl, refl)

  -- what the rule finds
  abbrev pub finds : Bool
  finds = passes s.mode (step_of s d).window d

  pub after_turn : asked ≡ true → ((step_of s d).mode ≡ judged s.mode finds) × ((step_of s d).place ≡ place_then (judged s.mode finds))
  unfolding step_of after_digit
  after_turn e = rw e (refl, refl)

  -- a step's window and digits seen do not depend on the mode
  pub step-window : (step_of s d).window ≡ window_of s.window d
  unfolding step_of after_digit
  step-window = cond-told (λ (s' : State). s'.window ≡ window_of s.window d) asked (λ _. refl) (λ _. refl)

  pub step-seen : (step_of s d).seen ≡ seen_of s.seen
  unfolding step_of after_digit
  step-seen = cond-told (λ (s' : State). s'.seen ≡ seen_of s.seen) asked (λ _. refl) (λ _. refl)

pub asks-held : (n : ℕ) (mode : Mode) (p : ℕ) → hunting mode ≡ false → asks n mode p ≡ eqb (p + 1) (check_at mode)
unfolding asks
asks-held n mode p h = rw h

-- where a rule looks outside hunting, the place has come to its check
pub asked-at : (n : ℕ) (mode : Mode) (p : ℕ) → asks n mode p ≡ true → hunting mode ≡ false → p + 1 ≡ check_at mode
asked-at n mode p e h = eqb-true (p + 1) (check_at mode) (sym (asks-held n mode p h) ∙ e)

pub up_one : (mode : Mode) (p : ℕ) → hunting mode ≡ false → place_after mode p ≡ p + 1
unfolding place_after
up_one mode p h = rw h

-- ---- the digits up to a check

-- outside hunting the mode stays until the place comes to the check; there the rule looks
pub arrives : (s : State) → Valid s → hunting s.mode ≡ false → (es : List ℕ) (e : ℕ) → s.place + suc (length es) ≡ check_at s.mode
    → ((heard step_of s (es ++ (e ∷ []))).mode ≡ judged s.mode (passes s.mode (heard step_of s (es ++ (e ∷ []))).window e))
    × ((heard step_of s (es ++ (e ∷ []))).place ≡ place_then (judged s.mode (passes s.mode (heard step_of s (es ++ (e ∷ []))).window e)))
unfolding heard
arrives s v h es e end =
    rw (heard-append step_of s es (e ∷ [])) (last (heard step_of s es) (ap (λ (t : State). t.mode) on) (ap (λ (t : State). t.place) on))
  where
    on : heard step_of s es ≡ record { window = (heard step_of s es).window; seen = s.seen; mode = s.mode; place = s.place + length es }
    on = let all = heard-carried es s h (v.came h) (omega arith) in rw all

    last : (t : State) → t.mode ≡ s.mode → t.place ≡ s.place + length es
        → ((step_of t e).mode ≡ judged s.mode (passes s.mode (step_of t e).window e))
        × ((step_of t e).place ≡ place_then (judged s.mode (passes s.mode (step_of t e).window e)))
    last t em ep =
        let at : asks (seen_of t.seen) t.mode t.place ≡ true =
        asks-held (seen_of t.seen) t.mode t.place (rw em h) ∙ eq-eqb (t.place + 1) (check_at t.mode) (rw (em, ep) (omega arith)) in
        let turn = after_turn t e at in
        let w = (step_of t e).window in
        (turn.0 ∙ ap (λ (m : Mode). judged m (passes m w e)) em, turn.1 ∙ ap (λ (m : Mode). place_then (judged m (passes m w e))) em)
