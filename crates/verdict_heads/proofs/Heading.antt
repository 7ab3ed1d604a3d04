-- The first numbers of a state: votes and changes by an array that has the line's votes from place 1 on.
use mathlib.Core.Path.{◌≡◌, refl, sym, ◌∙◌, ap}
use mathlib.Core.Bool.{cond, ◌&&◌}
use mathlib.Core.List.{List, ◌∷◌}
use Prim.Native.Nat.{ℕ, zero, suc, ◌+◌, ◌-◌, ◌%◌, ◌≤◌, ◌<◌}
use native.Mathlib.Omega.{arith}
use lib.Dec.{eqb}
use lib.ListN.{length, get_or, set, take, drop}
use lib.Seq.{get_or-set_same, get_or-set_other, get_or-drop, get_or-take}
use Rattle.digits.proofs.Sums.{sum_same}
use Rattle.verdict_states.specs.States.{decided, changes_in, vote_ago}

-- the votes behind the two before the line
pub vote-far : (older last : ℕ) (votes : List ℕ) (i : ℕ) → 2 ≤ i → get_or votes (i - 1) 0 ≡ get_or (older ∷ last ∷ drop 1 votes) i 0
vote-far older last votes zero h = absurd (none h)
  where
    none : 2 ≤ 0 → ⊥
    none l = omega arith
vote-far older last votes (suc zero) h = absurd (none h)
  where
    none : 2 ≤ 1 → ⊥
    none l = omega arith
vote-far older last votes (suc (suc k)) h =
    let e : suc (suc k) - 1 ≡ 1 + k = omega arith in
    rw e (sym (get_or-drop 1 votes k 0))

-- those of the line alone
cut-votes : (older last F : ℕ) (votes : List ℕ) (i : ℕ) → i < F + 2 → get_or (older ∷ last ∷ take F votes) i 0 ≡ get_or (older ∷ last ∷ votes) i 0
cut-votes older last F votes zero h = refl
cut-votes older last F votes (suc zero) h = refl
cut-votes older last F votes (suc (suc k)) h = get_or-take F votes k 0 (omega arith)

pub vote-ago : (older last : ℕ) (votes notes : List ℕ) (F n : ℕ) → take F (drop 1 votes) ≡ notes → length notes ≡ F → n ≤ 1
    → get_or (older ∷ last ∷ drop 1 votes) (F + 1 - n) 0 % 16 ≡ vote_ago older last notes n
vote-ago older last votes notes F n read many h =
    rw (many, ← read) (ap (λ (x : ℕ). x % 16) (sym (cut-votes older last F (drop 1 votes) (F + 1 - n) (omega arith))))

-- with the vote before them at place 0
module _ (votes notes : List ℕ) (last F : ℕ) (some : 0 < length votes) (read : take F (drop 1 votes) ≡ notes) where
  before-first : (f : ℕ) → f ≤ F → get_or (set votes 0 last) f 0 ≡ get_or (last ∷ notes) f 0
  before-first zero h = get_or-set_same votes 0 last 0 some
  before-first (suc k) h =
      let e : 1 + k ≡ suc k = omega arith in
      get_or-set_other votes 0 (suc k) last 0 (λ q. omega (arith, q))
      ∙ sym (ap (λ (l : List ℕ). get_or l k 0) (sym read) ∙ get_or-take F (drop 1 votes) k 0 (omega arith) ∙ get_or-drop 1 votes k 0 ∙ ap (λ (i : ℕ). get_or votes i 0) e)

  pub changes-before : (came j : ℕ) → changes_in came (set votes 0 last) j F ≡ changes_in came (last ∷ notes) j F
  unfolding changes_in
  changes-before came j =
      sum_same F
      (λ (f : ℕ). cond (eqb came 0 && eqb f 0) 0 (cond (eqb (decided (get_or (set votes 0 last) (suc f) 0) j) (decided (get_or (set votes 0 last) f 0) j)) 0 1))
      (λ (f : ℕ). cond (eqb came 0 && eqb f 0) 0 (cond (eqb (decided (get_or (last ∷ notes) (suc f) 0) j) (decided (get_or (last ∷ notes) f 0) j)) 0 1))
      (λ f hf. rw (before-first (suc f) (omega arith), before-first f (omega arith)))
