-- Laws of lists and digits that are about no level: lists given by their places, lists of digits, in how many places two lists differ.
use mathlib.Core.Path.{◌≡◌, refl, ap}
use mathlib.Core.Bool.{cond}
use mathlib.Core.List.{List, [], ◌∷◌, ◌++◌}
use Prim.Native.Nat.{ℕ, zero, suc, ◌+◌, ◌-◌, ◌*◌, ◌/◌, ◌%◌, ◌<◌}
use native.Mathlib.Omega.{arith}
use native.Mathlib.Decide.{dec_lt}
use native.Mathlib.Nat.{add-zero, zero-add}
use lib.Dec.{eqb, lit<}
use lib.ListN.{length, take, drop, replicate, length-take, length-replicate, get_or-replicate, get_or-append, get_or-eq_default}
use lib.Seq.{take_at, drop_at, get_or-append-add, get_or-take, get_or-drop}
use borrow.Author.Tests.{eq-eqb}
use Rattle.digits.specs.Digits.{eight, tab, Binary, differing}
use Rattle.digits.proofs.Bits.{eight-at, byte-is}

-- a list given by its places, one place longer
pub tab-more : (k p : ℕ) (f : ℕ → ℕ) → tab (suc k) p f ≡ tab k p f ++ (f (p + k) ∷ [])
unfolding tab
tab-more zero p f = rw (add-zero p)
tab-more (suc k) p f = let e : p + suc k ≡ suc p + k = omega arith in rw e (ap (λ (l : List ℕ). f p ∷ l) (tab-more k (suc p) f))

-- cut in two, and four places of it
pub tab-cat : (n m p : ℕ) (f : ℕ → ℕ) → tab (n + m) p f ≡ tab n p f ++ tab m (p + n) f
unfolding tab
tab-cat zero m p f = rw (zero-add m, add-zero p)
tab-cat (suc n) m p f =
    let e : suc n + m ≡ suc (n + m) = omega arith in
    let g : p + suc n ≡ suc p + n = omega arith in
    rw (e, g, tab-cat n m (suc p) f)

pub tab-four : (p : ℕ) (f : ℕ → ℕ) → tab 4 p f ≡ f (p + 0) ∷ f (p + 1) ∷ f (p + 2) ∷ f (p + 3) ∷ []
unfolding tab
tab-four p f =
    let e₀ : p + 0 ≡ p = omega arith in
    let e₁ : p + 1 ≡ suc p = omega arith in
    let e₂ : p + 2 ≡ suc (suc p) = omega arith in
    let e₃ : p + 3 ≡ suc (suc (suc p)) = omega arith in
    rw (e₀, e₁, e₂, e₃)

-- what holds of 0, 1, 2 and 3 holds of every number below 4: of every tributary
pub of_four : (P : ℕ → Type 0) → P 0 → P 1 → P 2 → P 3 → (j : ℕ) → j < 4 → P j
of_four P a b c d zero h = a
of_four P a b c d (suc zero) h = b
of_four P a b c d (suc (suc zero)) h = c
of_four P a b c d (suc (suc (suc zero))) h = d
of_four P a b c d (suc (suc (suc (suc j)))) h = absurd (over h)
  where
    over : suc (suc (suc (suc j))) < 4 → ⊥
    over h = omega arith

-- a written list of digits is one of digits
abbrev pub Each : List ℕ → Type 0
Each [] = Unit {0}
Each (x ∷ xs) = (x < 2) × Each xs

pub each-binary : (xs : List ℕ) → Each xs → Binary xs
each-binary [] e i = lit< tt
each-binary (x ∷ xs) e zero = e.0
each-binary (x ∷ xs) e (suc i) = each-binary xs e.1 i

-- nothing differs from itself
pub differing-self : (g : List ℕ) → differing g g ≡ 0
unfolding differing
differing-self [] = refl
differing-self (x ∷ g) = rw (eq-eqb x x refl) (omega (arith, differing-self g))

-- one element more at the end of each of two lists
pub differing-more : (xs ys : List ℕ) (x y : ℕ) → length xs ≡ length ys → differing (xs ++ (x ∷ [])) (ys ++ (y ∷ [])) ≡ differing xs ys + cond (eqb x y) 0 1
unfolding differing
differing-more [] [] x y l = omega arith
differing-more [] (b ∷ ys) x y l = absurd (none l)
  where
    none : 0 ≡ suc (length ys) → ⊥
    none l = omega arith
differing-more (a ∷ xs) [] x y l = absurd (none l)
  where
    none : suc (length xs) ≡ 0 → ⊥
    none l = omega arith
differing-more (a ∷ xs) (b ∷ ys) x y l = omega (arith, differing-more xs ys x y (omega arith))

-- a byte is the sum of its bits
pub byte-of-bits : (b : ℕ) → b < 256
    → b / 1 % 2 + 2 * (b / 2 % 2) + 4 * (b / 4 % 2) + 8 * (b / 8 % 2) + 16 * (b / 16 % 2) + 32 * (b / 32 % 2) + 64 * (b / 64 % 2) + 128 * (b / 128 % 2) ≡ b
byte-of-bits b h = omega (arith, byte-is (eight b) small b h (eight-at b))
  where
    bit : (n : ℕ) → n % 2 < 2
    bit n = omega arith

    small : Binary (eight b)
    small = each-binary (eight b) (bit (b / 128), (bit (b / 64), (bit (b / 32), (bit (b / 16), (bit (b / 8), (bit (b / 4), (bit (b / 2), (bit b, tt))))))))

-- a part in the middle of a list
pub part_at : (front mid back : List ℕ) (m q : ℕ) → length front ≡ m → length mid ≡ q → take q (drop m (front ++ (mid ++ back))) ≡ mid
part_at front mid back m q f e = rw (drop_at front (mid ++ back) m f) (take_at mid back q e)

-- ---- lists of digits: zeros, one after another, a part

pub binary-zeros : (n : ℕ) → Binary (replicate n 0)
binary-zeros n i =
    elim (dec_lt i n) [
      | yes h ↦ rw (get_or-replicate {A = ℕ} n i 0 0 h) (omega arith)
      | no h ↦ rw (get_or-eq_default (replicate {A = ℕ} n 0) 0 {n = i} (omega (arith, length-replicate {A = ℕ} n 0))) (omega arith)
    ]

pub binary-append : (xs ys : List ℕ) → Binary xs → Binary ys → Binary (xs ++ ys)
binary-append xs ys bx by i =
    elim (dec_lt i (length xs)) [
      | yes h ↦ rw (get_or-append xs ys 0 i h) (bx i)
      | no h ↦
          let e : i ≡ length xs + (i - length xs) = omega arith in
          rw (e, get_or-append-add xs ys (i - length xs) 0) (by (i - length xs))
    ]

pub binary-take : (n : ℕ) (xs : List ℕ) → Binary xs → Binary (take n xs)
binary-take n xs bx i =
    elim (dec_lt i n) [
      | yes h ↦ rw (get_or-take n xs i 0 h) (bx i)
      | no h ↦ rw (get_or-eq_default (take n xs) 0 {n = i} (omega (arith, length-take n xs))) (omega arith)
    ]

pub binary-drop : (n : ℕ) (xs : List ℕ) → Binary xs → Binary (drop n xs)
binary-drop n xs bx i = rw (get_or-drop n xs i 0) (bx (n + i))
