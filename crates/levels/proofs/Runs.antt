-- The runs between the heads of sets, over the row: a run is columns of tributary digits, one of each tributary, and a column of it
-- moves each tributary's index on by one. Where the runs lie is read off the row: after the head of the first set, of a set between, of the last.
use mathlib.Core.Path.{◌≡◌}
use Prim.Native.Nat.{ℕ, zero, suc, ◌+◌, ◌*◌, ◌/◌, ◌%◌, ◌-◌, ◌≤◌, ◌<◌}
use native.Mathlib.Omega.{arith}
use native.Mathlib.Decide.{ℕ_discrete}
use native.Mathlib.Nat.{add-zero, add-suc}
use lib.Dec.{eqb}
use borrow.Author.Tests.{eq-eqb, ne_eqb}
use Rattle.table.specs.declared.Row.{Row}
use Rattle.levels.specs.declared.places.Kind.TheVariants.{Tributary}
use Rattle.levels.specs.Table.{Shared}
use Rattle.levels.specs.Places.{head_end, kind_of, kind_at}
use Rattle.levels.specs.declared.order.Action.{Action}
use Rattle.levels.specs.Order.{carries, before}
use Rattle.levels.proofs.Choice.{cond-by}
use Rattle.levels.proofs.Columns.{wide, columns, column-pos}
use Rattle.levels.proofs.Ways.{kind-first, kind-between, kind-after}

-- the k columns from column x on carry a digit of each tributary
abbrev pub Body : Row → ℕ → ℕ → Type 0
Body row x k = (c : ℕ) → c < k → (j : ℕ) → j < 4 → kind_at row (4 * (x + c) + j) ≡ Tributary

-- each tributary's index moves on by one a column
pub before-run : (row : Row) (acts : ℕ → Action) (x k : ℕ) → Body row x k → (j : ℕ) → j < 4
    → before row acts j (x + k) ≡ before row acts j x + k
unfolding before carries
before-run row acts x zero body j jh = rw (add-zero x) (omega arith)
before-run row acts x (suc k) body j jh =
    rw (add-suc x k, body k (omega arith) j jh, before-run row acts x k (λ c h. body c (omega arith)) j jh) (omega arith)

module _ (row : Row) (sh : Shared row) where
  -- the heads, one after the other: their ends have what the row says of each
  by-head : (P : ℕ → Type 0) → P row.first → P row.last → P row.middle → (s : ℕ) → P (head_end row s)
  unfolding head_end
  by-head P first last middle s = cond-by P (eqb s 0) first (cond-by P (eqb s (row.sets - 1)) last middle)

  -- a head is whole columns, at most four, and leaves room for others in its set
  pub head-end-fours : (s : ℕ) → head_end row s % 4 ≡ 0
  head-end-fours = by-head (λ (h : ℕ). h % 4 ≡ 0) sh.first_fours sh.last_fours sh.middle_fours

  pub head-end-short : (s : ℕ) → head_end row s ≤ 16
  head-end-short =
      by-head (λ (h : ℕ). h ≤ 16) first_short (omega (arith, sh.last_most)) (omega (arith, sh.middle_most))
    where
      -- by the length of the word, of which the row has one of three
      first_short : row.first ≤ 16
      first_short =
          elim (ℕ_discrete row.len 10) [
            | yes e ↦ omega (arith, sh.ten e)
            | no a ↦
                elim (ℕ_discrete row.len 12) [
                  | yes e ↦ omega (arith, sh.twelve e)
                  | no b ↦ let e = sh.eight a b in omega (arith, e.1)
                ]
          ]

  pub head-end-in : (s : ℕ) → head_end row s ≤ row.set
  head-end-in = by-head (λ (h : ℕ). h ≤ row.set) (omega (arith, sh.room)) sh.last_room (omega (arith, sh.room, sh.middle_most))

  -- past it all is tributary digits
  pub past_head : (s r : ℕ) → head_end row s ≤ r → kind_of row s r ≡ Tributary
  unfolding head_end
  past_head s r h =
      elim (ℕ_discrete s 0) [
        | yes e ↦ rw e (kind-first row sh r (rw (eq-eqb s 0 e) at h))
        | no n ↦
            elim (ℕ_discrete (s + 1) row.sets) [
              | yes end ↦ kind-after row sh s (omega arith) end r (rw (ne_eqb s 0 n, eq-eqb s (row.sets - 1) (omega arith)) at h)
              | no other ↦
                  kind-between row sh s (omega arith) other r
                  (rw (ne_eqb s 0 n, ne_eqb s (row.sets - 1) (λ e. other (omega (arith, sh.later_set)))) at h)
            ]
      ]

  -- the run of set s of frame f: from the head's end to the set's
  pub run-body : (f s : ℕ) → s < row.sets → Body row (f * columns row + (s * wide row + head_end row s / 4)) (wide row - head_end row s / 4)
  run-body f s hs c l j jh =
      let h = head_end row s / 4 in
      let e : f * columns row + (s * wide row + h) + c ≡ f * columns row + (s * wide row + (h + c)) = omega arith in
      rw (e, column-pos row sh j jh f s (h + c) hs (omega arith)) (past_head s (4 * (h + c) + j) (omega (arith, head-end-fours s)))
