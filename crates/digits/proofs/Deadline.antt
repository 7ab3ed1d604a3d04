-- How long a search for words takes yet, told by a number that falls with each digit. Words come N digits apart. A search hunts, or holds a place where it
-- waits for the next word; on a line of correct frames there is a true place. At most so many digits more, and it holds the true place; and since 0 stays 0, it
-- does so as long as the line lasts. Whatever the search: its table of modes says which of the moves below each row is.
use mathlib.Core.Path.{◌≡◌, refl}
use mathlib.Core.Bool.{cond}
use Prim.Native.Nat.{ℕ, zero, suc, ◌+◌, ◌-◌, ◌%◌, ◌≤◌, ◌<◌}
use native.Mathlib.Omega.{arith}
use native.Mathlib.Decide.{ℕ_discrete}
use native.Mathlib.Nat.{suc-mod, mod_self, mod-eq_of_lt, mod-lt}
use borrow.Author.Tests.{eqb-true, eqb-false}
use lib.Dec.{eqb}
use Rattle.digits.proofs.Tests.{cond-told}

-- ---- a number that falls with each digit, from a first one on

module _ (P : ℕ → ℕ → Type 0) (first end : ℕ) (falls : (n k : ℕ) → first ≤ k → k < end → P n k → P (n - 1) (suc k)) where
  after : (j n : ℕ) → P n first → first + j ≤ end → P (n - j) (first + j)
  after zero n due room =
      let e : first + 0 ≡ first = omega arith in
      let e' : n - 0 ≡ n = omega arith in
      rw (e, e') due
  after (suc j) n due room =
      let e : first + suc j ≡ suc (first + j) = omega arith in
      let e' : n - suc j ≡ n - j - 1 = omega arith in
      rw (e, e') (falls (n - j) (first + j) (omega arith) (omega arith) (after j n due (omega arith)))

  -- where at most n are due, none is after n of them, nor after more
  pub none-due : (n : ℕ) → P n first → (k : ℕ) → first + n ≤ k → k ≤ end → P 0 k
  none-due n due k enough room =
      let e : first + (k - first) ≡ k = omega arith in
      let e' : n - (k - first) ≡ 0 = omega arith in
      rw (e, e') at (after (k - first) n due (omega arith))

-- ---- the true place, one digit on

-- the place after the next digit
abbrev pub next : ℕ → ℕ → ℕ
next n p = cond (eqb (p + 1) n) 0 (p + 1)

pub place_up : (n x : ℕ) → 0 < n → suc x % n ≡ next n (x % n)
place_up n x some =
    rw (suc-mod x n)
    (cond-told (λ (y : ℕ). suc (x % n) % n ≡ y) (eqb (x % n + 1) n)
    (λ q. let f : suc (x % n) ≡ n = omega (arith, eqb-true (x % n + 1) n q) in rw f (mod_self n))
    (λ q. less (eqb-false (x % n + 1) n q)))
  where
    less : (x % n + 1 ≡ n → ⊥) → suc (x % n) % n ≡ x % n + 1
    less q =
        let e : suc (x % n) ≡ x % n + 1 = omega arith in
        rw e (mod-eq_of_lt {n = x % n + 1} {m = n} (omega (arith, mod-lt x some)))

-- ---- how long it takes yet

-- a search hunts, or holds a place: the digits that it needs from place 0 on, where that is the true place, and where it is another
pub data Search : Type 0 where
  Hunts : Search
  Holds : ℕ → ℕ → Search

-- words come n digits apart, and from a true word on a hunt needs so many digits
module _ (n hunt : ℕ) where
  -- at most `due` digits more, where the true place is t
  abbrev pub Due : ℕ → ℕ → Search → ℕ → Type 0
  Due due t Hunts p = hunt ≤ due + t
  Due due t (Holds right wrong) p = (p ≡ t → right ≤ due + p) × ((p ≡ t → ⊥) → wrong ≤ due + p + 1)

  -- none is due: it holds the true place, and needs no word there
  pub none-hunting : (t p : ℕ) → t < n → n ≤ hunt → Due 0 t Hunts p → ⊥
  none-hunting t p ht far due = omega arith

  pub none-holding : (t p right wrong : ℕ) → p < n → n < wrong → Due 0 t (Holds right wrong) p → (p ≡ t) × (right < n)
  none-holding t p right wrong hp far due =
      elim (ℕ_discrete p t) [
        | yes e ↦ (e, omega (arith, due.0 e))
        | no e ↦ absurd (over (due.1 e))
      ]
    where
      over : wrong ≤ 0 + p + 1 → ⊥
      over h = omega arith

  -- the moves: what a digit makes of a search at place p
  module _ (due t p : ℕ) (ht : t < n) (hp : p < n) where
    -- a hunt goes on where no word comes, and holds a place where one does
    pub hunts-on : (next n t ≡ 0 → ⊥) → Due due t Hunts p → Due (due - 1) (next n t) Hunts 0
    hunts-on = cond-told (λ (t' : ℕ). (t' ≡ 0 → ⊥) → hunt ≤ due + t → hunt ≤ due - 1 + t') (eqb (t + 1) n) (λ _ far h. absurd (far refl)) (λ _ far h. omega arith)

    pub finds : (right wrong : ℕ) → right + n ≤ hunt → next n t ≡ 0 → Due due t Hunts p → Due (due - 1) (next n t) (Holds right wrong) 0
    finds right wrong less =
        cond-told (λ (t' : ℕ). t' ≡ 0 → hunt ≤ due + t → Due (due - 1) t' (Holds right wrong) 0) (eqb (t + 1) n)
        (λ e _ h. (λ q. omega (arith, eqb-true (t + 1) n e), λ q. absurd (q refl)))
        (λ e z h. absurd (omega arith))

    module _ (right wrong right' wrong' : ℕ) (h : Due due t (Holds right wrong) p) where
      -- the place goes up
      pub goes-up : p + 1 < n → n < wrong → right' ≤ right → wrong' ≤ wrong → Due (due - 1) (next n t) (Holds right' wrong') (p + 1)
      goes-up room far less less' =
          cond-told (λ (t' : ℕ). Due (due - 1) t' (Holds right' wrong') (p + 1)) (eqb (t + 1) n)
          (λ e. (λ q. omega arith, λ q. omega (arith, h.1 (λ r. omega (arith, eqb-true (t + 1) n e)))))
          (λ e. (λ q. omega (arith, h.0 (omega arith)), λ q. omega (arith, h.1 (λ r. q (omega arith)))))

      -- the word that is due comes
      pub confirms : right' ≤ right - n → p + 1 ≡ n → next n t ≡ 0 → Due (due - 1) (next n t) (Holds right' wrong') 0
      confirms less at =
          cond-told (λ (t' : ℕ). t' ≡ 0 → Due (due - 1) t' (Holds right' wrong') 0) (eqb (t + 1) n)
          (λ e _. (λ q. omega (arith, eqb-true (t + 1) n e, h.0 (omega (arith, eqb-true (t + 1) n e))), λ q. absurd (q refl)))
          (λ e z. absurd (omega arith))

      -- it does not, and the place is held all the same
      pub misses : wrong' + n ≤ wrong → p + 1 ≡ n → (next n t ≡ 0 → ⊥) → Due (due - 1) (next n t) (Holds right' wrong') 0
      misses less at =
          cond-told (λ (t' : ℕ). (t' ≡ 0 → ⊥) → Due (due - 1) t' (Holds right' wrong') 0) (eqb (t + 1) n) (λ _ far. absurd (far refl))
          (λ e far. (λ q. absurd (omega arith), λ q. omega (arith, h.1 (λ r. eqb-false (t + 1) n e (omega arith)))))

      -- a place that is not the true one is lost
      pub loses : hunt + n ≤ wrong → (p ≡ t → ⊥) → Due (due - 1) (next n t) Hunts 0
      loses less apart =
          cond-told (λ (t' : ℕ). hunt ≤ due - 1 + t') (eqb (t + 1) n)
          (λ e. omega (arith, h.1 apart, below (eqb-true (t + 1) n e)))
          (λ e. omega (arith, h.1 apart))
        where
          below : t + 1 ≡ n → p + 1 < n
          below e = away apart
            where
              away : (p ≡ t → ⊥) → p + 1 < n
              away q = omega arith
