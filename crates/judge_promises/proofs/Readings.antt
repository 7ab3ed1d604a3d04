-- Readings by votes: what tributary j's digits are goes by its own bit of the votes that a frame looks at, and by nothing else of them.
use mathlib.Core.Path.{◌≡◌, refl, sym, ◌∙◌, ap}
use mathlib.Core.Bool.{Bool, cond, true, false}
use mathlib.Core.List.{List, [], ◌∷◌, ◌++◌}
use Prim.Native.Nat.{ℕ, zero, suc, ◌+◌, ◌*◌, ◌≤◌, ◌<◌}
use native.Mathlib.Omega.{arith}
use native.Mathlib.Decide.{dec_lt}
use lib.ListN.{length, get_or, take, drop, get_or-append}
use lib.Seq.{get_or-take, get_or-drop, get_or-append-add}
use Rattle.digits.proofs.Lists.{of_four}
use Rattle.table.specs.declared.Row.{Row}
use Rattle.levels.specs.Table.{Shared}
use Rattle.levels.specs.Order.{stuffed, decisions, has_negative, action_of, actions}
use Rattle.levels.proofs.Columns.{columns}
use Rattle.extraction.specs.Quarters.{taken_to}
use Rattle.promises.proofs.Order.{places_same}
use Rattle.judge.specs.Readings.{none_stuffed, all_stuffed, before_votes}
use Rattle.judge_promises.specs.Verdicts.{Index, right, late, early, acts_on}

-- tributary j's bit of a list of votes
abbrev pub bit_at : List ℕ → ℕ → ℕ → Bool
bit_at votes j i = stuffed (get_or votes i 0) j

-- two lists of votes with the same bits for tributary j as far as F frames look; the first vote, that before frame 0, only where the level looks at it
pub record Alike (row : Row) (j F : ℕ) (v w : List ℕ) : Type 0 where
  pub before : has_negative row ≡ true → bit_at v j 0 ≡ bit_at w j 0
  pub own : (f : ℕ) → f < F → bit_at v j (suc f) ≡ bit_at w j (suc f)

-- then a frame does the same for it
pub acts-alike : (row : Row) (j F : ℕ) (v w : List ℕ) → Alike row j F v w → (f : ℕ) → f < F
    → actions row (get_or v 0 0) (drop 1 v) j f ≡ actions row (get_or w 0 0) (drop 1 w) j f
unfolding action_of
acts-alike row j F v w alike f h = go (has_negative row) refl
  where
    moved : (votes : List ℕ) (k : ℕ) → decisions (drop 1 votes) j k ≡ bit_at votes j (suc k)
    moved votes k = let e : 1 + k ≡ suc k = omega arith in ap (λ (n : ℕ). stuffed n j) (get_or-drop 1 votes k 0) ∙ ap (bit_at votes j) e

    mine : decisions (drop 1 v) j f ≡ decisions (drop 1 w) j f
    mine = moved v f ∙ alike.own f h ∙ sym (moved w f)

    preceding : has_negative row ≡ true → (k : ℕ) → k < F → decisions (get_or v 0 0 ∷ drop 1 v) j k ≡ decisions (get_or w 0 0 ∷ drop 1 w) j k
    preceding n zero hk = alike.before n
    preceding n (suc k) hk = moved v k ∙ alike.own k (omega arith) ∙ sym (moved w k)

    go : (t : Bool) → has_negative row ≡ t → actions row (get_or v 0 0) (drop 1 v) j f ≡ actions row (get_or w 0 0) (drop 1 w) j f
    go true n = rw (preceding n f h, mine)
    go false n = rw (n, mine)

-- so it is read alike
pub taken-alike : (row : Row) → Shared row → (j F : ℕ) → j < 4 → (v w ds : List ℕ) → Alike row j F v w
    → taken_to row (get_or v 0 0) (drop 1 v) ds j (F * columns row) ≡ taken_to row (get_or w 0 0) (drop 1 w) ds j (F * columns row)
unfolding taken_to
taken-alike row sh j F hj v w ds alike =
    rw (places_same row sh F j hj (actions row (get_or v 0 0) (drop 1 v) j) (actions row (get_or w 0 0) (drop 1 w) j) (acts-alike row j F v w alike) (F * columns row) (omega arith))

-- a vote for no tributary and one for all four are all that an unknown vote can be to a tributary
abbrev pub tried : Bool → ℕ
tried t = cond t all_stuffed none_stuffed

pub tried-bit : (t : Bool) (j : ℕ) → j < 4 → stuffed (tried t) j ≡ t
tried-bit true = of_four (λ (j : ℕ). stuffed all_stuffed j ≡ true) refl refl refl refl
tried-bit false = of_four (λ (j : ℕ). stuffed none_stuffed j ≡ false) refl refl refl refl

-- the votes that an index goes with, by notes that decide alike for tributary j and an unknown vote with its bit
module _ (row : Row) (j earlier : ℕ) (a b : List ℕ) (long : length a ≡ length b) (same : (f : ℕ) → f < length b → decisions a j f ≡ decisions b j f) (u v : ℕ) (bit : stuffed u j ≡ stuffed v j) where
  abbrev F : ℕ
  F = length b

  given : stuffed (cond (has_negative row) earlier u) j ≡ stuffed (cond (has_negative row) earlier v) j
  given = go (has_negative row)
    where
      go : (t : Bool) → stuffed (cond t earlier u) j ≡ stuffed (cond t earlier v) j
      go true = refl
      go false = bit

  -- with one more before them, and with one more behind them
  behind : (x y : ℕ) → stuffed x j ≡ stuffed y j → (f : ℕ) → f ≤ F → bit_at (x ∷ a) j f ≡ bit_at (y ∷ b) j f
  behind x y e zero h = e
  behind x y e (suc f) h = same f (omega arith)

  ahead : (f : ℕ) → f ≤ F → bit_at (a ++ (u ∷ [])) j f ≡ bit_at (b ++ (v ∷ [])) j f
  ahead f h =
      elim (dec_lt f F) [
        | yes l ↦
            ap (λ (n : ℕ). stuffed n j) (get_or-append a (u ∷ []) 0 f (omega (arith, long)))
            ∙ same f l
            ∙ sym (ap (λ (n : ℕ). stuffed n j) (get_or-append b (v ∷ []) 0 f l))
        | no l ↦
            let ea : f ≡ length a + 0 = omega (arith, long) in
            let eb : f ≡ F + 0 = omega arith in
            ap (λ (k : ℕ). bit_at (a ++ (u ∷ [])) j k) ea
            ∙ ap (λ (n : ℕ). stuffed n j) (get_or-append-add a (u ∷ []) 0 0)
            ∙ bit
            ∙ sym (ap (λ (k : ℕ). bit_at (b ++ (v ∷ [])) j k) eb ∙ ap (λ (n : ℕ). stuffed n j) (get_or-append-add b (v ∷ []) 0 0))
      ]

  pub index-alike : (index : Index) → Alike row j F (acts_on row index earlier a u) (acts_on row index earlier b v)
  index-alike right = record { before = λ n. refl; own = same }
  index-alike late = record { before = λ n. bit; own = cut }
    where
      x : ℕ
      x = cond (has_negative row) earlier u

      y : ℕ
      y = cond (has_negative row) earlier v

      cut : (f : ℕ) → f < F → bit_at (before_votes row earlier a u) j (suc f) ≡ bit_at (before_votes row earlier b v) j (suc f)
      cut f h =
          ap (λ (n : ℕ). stuffed n j) (get_or-take (length a) (x ∷ a) f 0 (omega (arith, long)))
          ∙ behind x y given f (omega arith)
          ∙ sym (ap (λ (n : ℕ). stuffed n j) (get_or-take F (y ∷ b) f 0 h))
  index-alike early = record { before = λ n. ahead 0 (omega arith); own = λ f h. ahead (suc f) (omega arith) }
