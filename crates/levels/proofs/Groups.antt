-- Laws of control groups as lists of digits.
use mathlib.Core.Path.{◌≡◌, refl, ◌∙◌, ap}
use mathlib.Core.Bool.{Bool, cond, true, false}
use mathlib.Core.List.{List, [], ◌∷◌}
use Prim.Native.Nat.{ℕ, zero, suc, ◌+◌, ◌*◌, ◌<◌}
use native.Mathlib.Omega.{arith}
use native.Mathlib.Numerals.{add-one}
use lib.Dec.{eqb, lit<}
use lib.ListN.{length, get_or, replicate, replicate-append-replicate}
use Rattle.digits.specs.Digits.{Binary, differing}
use Rattle.digits.proofs.Laws.{by-digit, binary-append}
use Rattle.digits.proofs.Lists.{each-binary}
use Rattle.levels.specs.Vote.{votes_for, group_of}

-- a group whose digits are all d, and two groups whose digits are the same
module _ (ds : List ℕ) (p set : ℕ) where
  pub group-all : (d k : ℕ) → ((i : ℕ) → i < k → get_or ds (p + i * set) 0 ≡ d) → group_of ds p set k ≡ replicate k d
  unfolding group_of
  group-all d zero h = refl
  group-all d (suc k) h =
      rw (group-all d k (λ i hi. h i (omega arith)), h k (omega arith)) (replicate-append-replicate k 1 d ∙ ap (λ (n : ℕ). replicate n d) (add-one k))

  pub group-same : (es : List ℕ) (k : ℕ) → ((i : ℕ) → i < k → get_or ds (p + i * set) 0 ≡ get_or es (p + i * set) 0) → group_of ds p set k ≡ group_of es p set k
  unfolding group_of
  group-same es zero h = refl
  group-same es (suc k) h = rw (group-same es k (λ i hi. h i (omega arith)), h k (omega arith))

-- a group of digits is one of digits
pub group-binary : (ds : List ℕ) → Binary ds → (p set k : ℕ) → Binary (group_of ds p set k)
unfolding group_of
group-binary ds bin p set zero i = lit< tt
group-binary ds bin p set (suc k) i =
    binary-append (group_of ds p set k) (get_or ds (p + k * set) 0 ∷ []) (group-binary ds bin p set k)
    (each-binary (get_or ds (p + k * set) 0 ∷ []) (bin (p + k * set), tt))
    i

-- of digits, those that differ from a group that is all one digit are the votes for the other
pub differing-votes : (st : Bool) (g : List ℕ) → Binary g → differing (replicate (length g) (cond st 1 0)) g ≡ votes_for (cond st 0 1) g
unfolding differing votes_for
differing-votes st [] b = refl
differing-votes st (x ∷ g) b = omega (arith, differing-votes st g (λ i. b (suc i)), one st)
  where
    one : (st : Bool) → cond {A = ℕ} (eqb (cond st 1 0) x) 0 1 ≡ cond (eqb x (cond st 0 1)) 1 0
    one true = by-digit (λ (x : ℕ). cond {A = ℕ} (eqb 1 x) 0 1 ≡ cond (eqb x 0) 1 0) refl refl x (b 0)
    one false = by-digit (λ (x : ℕ). cond {A = ℕ} (eqb 0 x) 0 1 ≡ cond (eqb x 1) 1 0) refl refl x (b 0)
