-- One digit more of a line whose control digits are another's.
use mathlib.Core.Path.{◌≡◌, refl, ◌∙◌}
use mathlib.Core.Bool.{true, false}
use mathlib.Core.List.{List}
use Prim.Native.Nat.{ℕ, ◌+◌, ◌*◌, ◌%◌, ◌≤◌, ◌<◌}
use native.Mathlib.Omega.{arith}
use native.Mathlib.Decide.{ℕ_discrete}
use lib.ListN.{length, get_or, set}
use Rattle.digits.specs.Digits.{digits_of}
use Rattle.digits.proofs.Laws.{put_same, put_other}
use Rattle.table.specs.declared.Row.{Row}
use Rattle.levels.specs.Places.{kind_at}
use Rattle.workbench.specs.Bench.{is_control, mixed}

module _ (row : Row) (said : List ℕ) where
  pub mixed-said : (line : List ℕ) (p d : ℕ) → is_control (kind_at row (p % row.digits)) ≡ true → d ≡ get_or said p 0 → d ≡ mixed row said line p
  unfolding mixed
  mixed-said line p d c e = rw c e

  pub mixed-line : (line : List ℕ) (p d : ℕ) → is_control (kind_at row (p % row.digits)) ≡ false → d ≡ get_or line p 0 → d ≡ mixed row said line p
  unfolding mixed
  mixed-line line p d c e = rw c e

  mixed-same : (xs ys : List ℕ) (p : ℕ) → get_or xs p 0 ≡ get_or ys p 0 → mixed row said xs p ≡ mixed row said ys p
  unfolding mixed
  mixed-same xs ys p e = rw e

  -- the places before p are mixed, those from p on are as they were
  pub record Mixing (old : List ℕ) (p : ℕ) (new : List ℕ) : Type 0 where
    pub done : (q : ℕ) → q < p → get_or (digits_of new) q 0 ≡ mixed row said (digits_of old) q
    pub ahead : (q : ℕ) → p ≤ q → get_or (digits_of new) q 0 ≡ get_or (digits_of old) q 0

  pub mixing-start : (old : List ℕ) → Mixing old 0 old
  mixing-start old = record { done = λ q h. absurd (over q h); ahead = λ q h. refl }
    where
      over : (q : ℕ) → q < 0 → ⊥
      over q h = omega arith

  pub mixing-more : (old mid new : List ℕ) (p d : ℕ) → Mixing old p mid → p < 8 * length mid → d ≡ mixed row said (digits_of mid) p
      → digits_of new ≡ set (digits_of mid) p d → Mixing old (p + 1) new
  mixing-more old mid new p d m h ed e =
      record {
        done = λ q hq. rw e (place q hq);
        ahead = λ q hq. rw e (put_other mid p d q (past q hq) ∙ m.ahead q (omega arith));
      }
    where
      past : (q : ℕ) → p + 1 ≤ q → q ≡ p → ⊥
      past q hq at = omega arith

      place : (q : ℕ) → q < p + 1 → get_or (set (digits_of mid) p d) q 0 ≡ mixed row said (digits_of old) q
      place q hq =
          elim (ℕ_discrete q p) [
            | yes at ↦ rw at (put_same mid p d h ∙ ed ∙ mixed-same (digits_of mid) (digits_of old) p (m.ahead p (omega arith)))
            | no other ↦ put_other mid p d q other ∙ m.done q (omega arith)
          ]
