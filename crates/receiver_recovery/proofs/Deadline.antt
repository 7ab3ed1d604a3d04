-- How long it takes yet, as a number that falls with each digit (crate digits, proofs/Deadline.antt): here are the receiver's numbers, and which move each row
-- of the table is. No case of the table needs more than its own row.
use mathlib.Core.Path.{◌≡◌, refl, ap, sym, ◌∙◌}
use mathlib.Core.Bool.{Bool, cond, true, false, true≢false}
use Prim.Native.Nat.{ℕ, ◌+◌, ◌-◌, ◌*◌, ◌≤◌, ◌<◌}
use native.Mathlib.Omega.{arith}
use native.Mathlib.Nat.{add-mul, mul-le-mul_right}
use borrow.Author.Tests.{eqb-true, eq-eqb}
use lib.Dec.{eqb}
use Rattle.digits.proofs.Tests.{cond-told}
use Rattle.digits.proofs.Deadline.{next, Search, Hunts, Holds, Due, none-hunting, none-holding, hunts-on, finds, goes-up, confirms, misses, loses}
use Rattle.table.specs.declared.Row.{Row}
use Rattle.modes.specs.declared.Mode.{Mode}
use Rattle.modes.specs.declared.Mode.TheVariants.{Hunting, OneFound, TwoFound, Aligned}
use Rattle.modes.specs.Modes.{hunting, missed, judged}

module _ (row : Row) where
  -- words come n digits apart, and a hunt needs three of them
  abbrev n : ℕ
  n = row.digits

  -- aligned with m words missed: what it needs at the true place, and at another
  abbrev right : ℕ → ℕ
  right m = cond (eqb m 0) 0 row.digits

  abbrev wrong : ℕ → ℕ
  wrong m = 7 * row.digits - m * row.digits

  abbrev pub needs : Mode → Search
  needs Hunting = Hunts
  needs OneFound = Holds (2 * row.digits) (4 * row.digits)
  needs TwoFound = Holds row.digits (4 * row.digits)
  needs (Aligned m) = Holds (right m) (wrong m)

  abbrev pub DueAt : ℕ → ℕ → Mode → ℕ → Type 0
  DueAt due t mode p = Due row.digits (3 * row.digits) due t (needs mode) p

  -- no more than three are missed
  few-missed : (m : ℕ) → m ≤ 3 → m * n ≤ 3 * n
  few-missed m few = mul-le-mul_right {m = m} {n = 3} n few

  -- any state
  pub due-any : (t : ℕ) (mode : Mode) (p : ℕ) → 0 < row.digits → DueAt (7 * row.digits - 1) t mode p
  due-any t Hunting p some = omega arith
  due-any t OneFound p some = (λ q. omega arith, λ q. omega arith)
  due-any t TwoFound p some = (λ q. omega arith, λ q. omega arith)
  due-any t (Aligned m) p some = (λ q. cond-told (λ (r : ℕ). r ≤ 7 * n - 1 + p) (eqb m 0) (λ _. omega arith) (λ _. omega arith), λ q. omega arith)

  module _ (t p : ℕ) (ht : t < row.digits) (hp : p < row.digits) where
    -- none is due
    pub settled : (mode : Mode) → missed mode ≤ 3 → DueAt 0 t mode p → (mode ≡ Aligned 0) × (p ≡ t)
    settled Hunting few h = absurd (none-hunting n (3 * n) t p ht (omega arith) h)
    settled OneFound few h = absurd (over (none-holding n (3 * n) t p (2 * n) (4 * n) hp (omega arith) h).1)
      where
        over : 2 * n < n → ⊥
        over q = omega arith
    settled TwoFound few h = absurd (over (none-holding n (3 * n) t p n (4 * n) hp (omega arith) h).1)
      where
        over : n < n → ⊥
        over q = omega arith
    settled (Aligned m) few h =
        let end = none-holding n (3 * n) t p (right m) (wrong m) hp (omega (arith, few-missed m few)) h in
        (ap Aligned (cond-told (λ (r : ℕ). r < n → m ≡ 0) (eqb m 0) (λ e _. eqb-true m 0 e) (λ _ q. absurd (omega arith)) end.1), end.0)

    module _ (due : ℕ) where
      -- a digit at which no word is asked for
      pub due-up : (mode : Mode) → hunting mode ≡ false → missed mode ≤ 3 → p + 1 < row.digits → DueAt due t mode p
          → DueAt (due - 1) (next row.digits t) mode (p + 1)
      due-up Hunting held few room h = absurd (true≢false held)
      due-up OneFound held few room h = goes-up n (3 * n) due t p ht hp (2 * n) (4 * n) (2 * n) (4 * n) h room (omega arith) (omega arith) (omega arith)
      due-up TwoFound held few room h = goes-up n (3 * n) due t p ht hp n (4 * n) n (4 * n) h room (omega arith) (omega arith) (omega arith)
      due-up (Aligned m) held few room h =
          goes-up n (3 * n) due t p ht hp (right m) (wrong m) (right m) (wrong m) h room (omega (arith, few-missed m few)) (omega arith) (omega arith)

      -- a digit at which it is: the word is good exactly at the true place
      pub due-turn : (mode : Mode) (g : Bool) → missed mode ≤ 3 → (hunting mode ≡ false → p + 1 ≡ row.digits)
          → (g ≡ true → next row.digits t ≡ 0) → (next row.digits t ≡ 0 → g ≡ true)
          → DueAt due t mode p → DueAt (due - 1) (next row.digits t) (judged mode g) 0
      due-turn mode g few at word true-word h = turn mode few at h
        where
          D : Mode → Type 0
          D mode = DueAt (due - 1) (next n t) mode 0

          no_word : g ≡ false → next n t ≡ 0 → ⊥
          no_word q z = true≢false (sym (true-word z) ∙ q)

          -- a check that fails was not made at the true place
          apart : p + 1 ≡ n → g ≡ false → p ≡ t → ⊥
          apart at q e = no_word q (let z : eqb (t + 1) n ≡ true = eq-eqb (t + 1) n (omega arith) in rw z)

          turn : (mode : Mode) → missed mode ≤ 3 → (hunting mode ≡ false → p + 1 ≡ n) → DueAt due t mode p → D (judged mode g)
          turn Hunting few at h =
              cond-told D g (λ q. finds n (3 * n) due t p ht hp (2 * n) (4 * n) (omega arith) (word q) h) (λ q. hunts-on n (3 * n) due t p ht hp (no_word q) h)
          turn OneFound few at h =
              cond-told D g (λ q. confirms n (3 * n) due t p ht hp (2 * n) (4 * n) n (4 * n) h (omega arith) (at refl) (word q))
              (λ q. loses n (3 * n) due t p ht hp (2 * n) (4 * n) 0 0 h (omega arith) (apart (at refl) q))
          turn TwoFound few at h =
              cond-told D g (λ q. confirms n (3 * n) due t p ht hp n (4 * n) 0 (wrong 0) h (omega arith) (at refl) (word q))
              (λ q. loses n (3 * n) due t p ht hp n (4 * n) 0 0 h (omega arith) (apart (at refl) q))
          turn (Aligned m) few at h =
              cond-told D g (λ q. confirms n (3 * n) due t p ht hp (right m) (wrong m) 0 (wrong 0) h (omega arith) (at refl) (word q))
              (λ q. cond-told D (eqb (m + 1) 4) (λ _. loses n (3 * n) due t p ht hp (right m) (wrong m) 0 0 h (omega (arith, few-missed m few)) (apart (at refl) q))
              (λ _. misses n (3 * n) due t p ht hp (right m) (wrong m) (right (m + 1)) (wrong (m + 1)) h (omega (arith, few-missed m few, add-mul m 1 n)) (at refl) (no_word q)))
