-- The best lane has the least number, and laying the lanes anew around it leaves the least as it was.
use mathlib.Core.Path.{◌≡◌, ◌∙◌}
use mathlib.Core.List.{List}
use Prim.Native.Nat.{ℕ, zero, suc, ◌+◌, ◌-◌, ◌*◌, ◌≤◌}
use native.Mathlib.Omega.{arith}
use native.Mathlib.Decide.{dec_le, dec_lt}
use native.Mathlib.Nat.{zero-add}
use lib.Dec.{ltb}
use lib.ListN.{get_or}
use borrow.Author.Tests.{lt-ltb, le-ltb}
use Rattle.digits.specs.Digits.{tab}
use Rattle.digits.proofs.Laws.{tab-at}
use Rattle.slips.specs.Slips.{step_price, apart, least_to, least_of, cheaper, best_to, best_of, laid_at, laid_of}
use Rattle.slips.proofs.Sweeping.{least-le, least-found}

module _ (v : List ℕ) where
  abbrev lane : ℕ → ℕ
  lane k = get_or v k 0

  -- the cheaper of two costs no more than either, and is one of them
  pub record Lesser (a b c : ℕ) : Type 0 where
    pub first : lane c ≤ lane a
    pub second : lane c ≤ lane b
    pub within : a ≤ 16 → b ≤ 16 → c ≤ 16

  pub lesser : (a b : ℕ) → Lesser a b (cheaper v a b)
  lesser a b =
      elim (dec_lt (lane b) (lane a)) [
        | yes l ↦ rw (lt-ltb (lane b) (lane a) l) (record { first = omega arith; second = omega arith; within = λ ha hb. hb })
        | no l ↦ rw (le-ltb (lane b) (lane a) (omega arith)) (record { first = omega arith; second = omega arith; within = λ ha hb. ha })
      ]

  best-within : (d : ℕ) → d ≤ 8 → best_to v d ≤ 16
  unfolding best_to
  best-within zero h = omega arith
  best-within (suc d) h =
      let one = lesser (best_to v d) (8 - suc d) in
      (lesser (cheaper v (best_to v d) (8 - suc d)) (8 + suc d)).within (one.within (best-within d (omega arith)) (omega arith)) (omega arith)

  best-below : (d : ℕ) → d ≤ 8 → (k : ℕ) → apart k 8 ≤ d → lane (best_to v d) ≤ lane k
  unfolding best_to
  best-below zero h k near = let e : k ≡ 8 = omega arith in rw e (omega arith)
  best-below (suc d) h k near =
      let one = lesser (best_to v d) (8 - suc d) in
      let two = lesser (cheaper v (best_to v d) (8 - suc d)) (8 + suc d) in
      elim (dec_le (apart k 8) d) [
        | yes l ↦ omega (arith, one.first, two.first, best-below d (omega arith) k l)
        | no l ↦
            elim (dec_le k 8) [
              | yes low ↦ let e : k ≡ 8 - suc d = omega arith in rw e (omega (arith, one.second, two.first))
              | no high ↦ let e : k ≡ 8 + suc d = omega arith in rw e two.second
            ]
      ]

  pub best-lane : best_of v ≤ 16
  best-lane = best-within 8 (omega arith)

  pub best-least : least_of v ≡ lane (best_of v)
  unfolding least_of
  best-least =
      let f = least-found 16 lane in
      let below : lane (best_of v) ≤ lane f.at = best-below 8 (omega arith) f.at (near f.at f.within) in
      omega (arith, f.least, below, least-le 16 lane (best_of v) best-lane)
    where
      near : (k : ℕ) → k ≤ 16 → apart k 8 ≤ 8
      near k h = omega arith

  -- ---- laid anew around lane c

  pub laid-at : (c k : ℕ) → k ≤ 16 → get_or (laid_of v c) k 0 ≡ laid_at v c k
  unfolding laid_of
  laid-at c k h = rw (tab-at 17 0 (laid_at v c) k (omega arith), zero-add k)

  pub laid-le : (c k m : ℕ) → m ≤ 16 → laid_at v c k ≤ lane m + step_price * apart (k + c) (m + 8)
  unfolding laid_at
  laid-le c k m h = least-le 16 (λ (m : ℕ). get_or v m 0 + step_price * apart (k + c) (m + 8)) m h

  -- it was come to from one of those that were there
  pub record LaidFrom (c k : ℕ) : Type 0 where
    pub at : ℕ
    pub within : at ≤ 16
    pub is : laid_at v c k ≡ lane at + step_price * apart (k + c) (at + 8)

  pub laid-found : (c k : ℕ) → LaidFrom c k
  unfolding laid_at
  laid-found c k =
      let f = least-found 16 (λ (m : ℕ). get_or v m 0 + step_price * apart (k + c) (m + 8)) in
      record { at = f.at; within = f.within; is = f.least }

  -- around the best one: the least stays
  pub laid-least : least_of (laid_of v (best_of v)) ≡ least_of v
  unfolding least_of
  laid-least =
      let c = best_of v in
      let new : ℕ → ℕ = λ (k : ℕ). get_or (laid_of v c) k 0 in
      let f = least-found 16 new in
      let g = laid-found c f.at in
      let from : least_to 16 new ≡ lane g.at + step_price * apart (f.at + c) (g.at + 8) = f.least ∙ laid-at c f.at f.within ∙ g.is in
      let none : apart (8 + c) (c + 8) ≡ 0 = omega arith in
      let middle : new 8 ≤ lane c = rw (laid-at c 8 (omega arith)) (omega (arith, laid-le c 8 c best-lane, none)) in
      let old : least_to 16 lane ≡ lane c = best-least in
      omega (arith, from, least-le 16 lane g.at g.within, middle, old, least-le 16 new 8 (omega arith))
