-- More in one of the sums, and in four of them.
use mathlib.Core.Path.{◌≡◌, refl, sym, ◌∙◌}
use mathlib.Core.Bool.{Bool, cond, true, false, ◌&&◌}
use mathlib.Core.List.{List}
use Prim.Native.Nat.{ℕ, ◌+◌, ◌<◌}
use native.Mathlib.Omega.{arith}
use native.Mathlib.Decide.{ℕ_discrete, dec_lt}
use lib.Dec.{eqb}
use lib.ListN.{length, get_or, length-set}
use lib.Seq.{get_or-set_same, get_or-set_other, set-get_or, set_out}
use borrow.Author.Tests.{eq-eqb, ne_eqb}
use Rattle.masks.specs.Masks.{added, added_four, by_four}

-- v, in sum m alone
abbrev pub on : ℕ → ℕ → ℕ → ℕ
on b m v = cond (eqb b m) v 0

pub on_none : (b m : ℕ) → on b m 0 ≡ 0
on_none b m = go (eqb b m)
  where
    go : (t : Bool) → cond {A = ℕ} t 0 0 ≡ 0
    go true = refl
    go false = refl

pub on-more : (b m v w : ℕ) → on b m (v + w) ≡ on b m v + on b m w
on-more b m v w = go (eqb b m)
  where
    go : (t : Bool) → cond t (v + w) 0 ≡ cond t v 0 + cond t w 0
    go true = refl
    go false = refl

pub on-unit : (t e : Bool) → cond {A = ℕ} (t && e) 1 0 ≡ cond e (cond t 1 0) 0
on-unit true true = refl
on-unit true false = refl
on-unit false true = refl
on-unit false false = refl

pub added-at : (sums : List ℕ) (b v m : ℕ) → b < length sums → get_or (added sums b v) m 0 ≡ get_or sums m 0 + on b m v
added-at sums b v m h =
    elim (ℕ_discrete m b) [
      | yes e ↦ rw (e, eq-eqb b b refl) (get_or-set_same sums b (get_or sums b 0 + v) 0 h)
      | no n ↦
          let none : get_or sums m 0 ≡ get_or sums m 0 + 0 = omega arith in
          rw (ne_eqb b m (λ q. n (sym q))) (get_or-set_other sums b m (get_or sums b 0 + v) 0 n ∙ none)
    ]

pub added-length : (sums : List ℕ) (b v : ℕ) → length (added sums b v) ≡ length sums
added-length sums b v = length-set sums b (get_or sums b 0 + v)

pub added_none : (sums : List ℕ) (b : ℕ) → added sums b 0 ≡ sums
added_none sums b = let e : get_or sums b 0 + 0 ≡ get_or sums b 0 = omega arith in rw e (set-get_or sums b 0)

-- a bound stays, a little higher
pub added-lt : (sums : List ℕ) (b v m : ℕ) → ((k : ℕ) → get_or sums k 0 < m) → v < 256 → (k : ℕ) → get_or (added sums b v) k 0 < m + 256
added-lt sums b v m small few k =
    elim (dec_lt b (length sums)) [
      | yes h ↦ by-sum (eqb b k) (added-at sums b v k h)
      | no h ↦ rw (set_out sums b (get_or sums b 0 + v) (omega arith)) (omega (arith, small k))
    ]
  where
    by-sum : (t : Bool) → get_or (added sums b v) k 0 ≡ get_or sums k 0 + cond t v 0 → get_or (added sums b v) k 0 < m + 256
    by-sum true e = omega (arith, e, small k)
    by-sum false e = omega (arith, e, small k)

pub four-of : (sums next : List ℕ) (base a b c d : ℕ) (w : ℕ → ℕ) → next ≡ added_four sums base (by_four a b c d) → a ≡ w 0 → b ≡ w 1 → c ≡ w 2 → d ≡ w 3
    → next ≡ added_four sums base w
four-of sums next base a b c d w e ea eb ec ed = e ∙ rw (ea, eb, ec, ed) refl
