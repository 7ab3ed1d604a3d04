-- Runs of columns under way: from some column on, k of them are handed out; and what the head of a set hands out.
use mathlib.Core.Path.{◌≡◌, refl, sym, ap, ◌∙◌}
use mathlib.Core.Logic.{◌≢◌}
use mathlib.Core.Bool.{true, false}
use mathlib.Core.List.{List, [], ◌∷◌, ◌++◌}
use Prim.Native.Nat.{ℕ, zero, suc, ◌+◌, ◌-◌, ◌*◌, ◌/◌, ◌%◌, ◌≤◌, ◌<◌}
use native.Mathlib.Omega.{arith}
use native.Mathlib.Decide.{ℕ_discrete}
use native.Mathlib.Nat.{add-zero, add-suc, mul-le-mul_right}
use lib.ListN.{length, get_or, length-append}
use borrow.Author.Tests.{lt-ltb, le-ltb, eq-eqb, ne_eqb}
use Rattle.words.specs.Words.{Ready}
use Rattle.table.specs.declared.Row.{Row}
use Rattle.levels.specs.declared.order.Action.{Action}
use Rattle.levels.specs.Table.{Shared}
use Rattle.levels.specs.Places.{kind_of, head_end}
use Rattle.levels.specs.Order.{has_negative}
use Rattle.levels.proofs.Ways.{kind-negative, kind-positive}
use Rattle.unweave.specs.declared.Writers.{Writers}
use Rattle.unweave.specs.Lanes.{picked, run_digits, kind_digits, head_to, head_digits}
use Rattle.unweave.specs.Quarters.{writer_of, Roomy, Grown}
use Rattle.unweave.proofs.Lanes.{picked-cat}
use Rattle.unweave.proofs.Four.{roomy_after, grown-as, grown-none, grown-more}

pub picked-length : (n : ℕ) (ds : List ℕ) (p : ℕ) → length (picked n ds p) ≡ n
unfolding picked
picked-length zero ds p = refl
picked-length (suc n) ds p = length-append (picked n ds p) (get_or ds (p + 4 * n) 0 ∷ []) ∙ rw (picked-length n ds p) (omega arith)

-- what a head hands out: that of the last set its columns behind the control digits, the others nothing
module _ (row : Row) (ds : List ℕ) (p s : ℕ) (acts : ℕ → Action) where
  pub head-none : s ≢ row.sets - 1 → (j : ℕ) → [] ≡ head_digits row ds p s acts j
  head-none e j = rw (ne_eqb s (row.sets - 1) e)

  abbrev pub columns_to : ℕ → ℕ → List ℕ
  columns_to = head_to row ds p s acts

  -- one column, the positive places
  one-column : (j : ℕ) → columns_to 1 j ≡ kind_digits ds (p + 4) (kind_of row s 4) acts j
  unfolding head_to
  one-column j = refl

  -- two, the negative places first
  two-columns : (j : ℕ) → columns_to 2 j ≡ kind_digits ds (p + 4) (kind_of row s 4) acts j ++ kind_digits ds (p + 8) (kind_of row s 8) acts j
  unfolding head_to
  two-columns j = refl

  module _ (sh : Shared row) (end : s ≡ row.sets - 1) where
    later : 0 < s
    later = omega (arith, end, sh.later_set)

    last : s + 1 ≡ row.sets
    last = omega (arith, end, sh.later_set)

    eight : row.last ≡ 8 → (j : ℕ) → columns_to ((row.last - 4) / 4) j ≡ head_digits row ds p s acts j
    eight e j =
        let count : (row.last - 4) / 4 ≡ 1 = omega arith in
        let at : row.last - 4 ≡ 4 = omega arith in
        let none : has_negative row ≡ false = le-ltb row.n row.room (omega (arith, sh.most)) in
        rw (count, one-column j, kind-positive row sh s later last 4 (omega arith) (omega arith), eq-eqb s (row.sets - 1) end, none, at)

    twelve : row.last ≡ 12 → (j : ℕ) → columns_to ((row.last - 4) / 4) j ≡ head_digits row ds p s acts j
    twelve e j =
        let count : (row.last - 4) / 4 ≡ 2 = omega arith in
        let at : row.last - 4 ≡ 8 = omega arith in
        let some : has_negative row ≡ true = lt-ltb row.n row.room (omega (arith, sh.most)) in
        rw (
          count,
          two-columns j,
          kind-negative row sh s later last 4 (omega arith) (omega arith),
          kind-positive row sh s later last 8 (omega arith) (omega arith),
          eq-eqb s (row.sets - 1) end,
          some,
          at,
        )

    pub head-columns : (j : ℕ) → columns_to ((row.last - 4) / 4) j ≡ head_digits row ds p s acts j
    head-columns j =
        elim (ℕ_discrete row.last 8) [
          | yes e ↦ eight e j
          | no n ↦ twelve (omega (arith, n, sh.last_least, sh.last_most, sh.last_fours)) j
        ]

    -- a column more is still within the head's
    rises : (k m j : ℕ) → length (columns_to k j) ≤ length (columns_to (k + m) j)
    unfolding head_to
    rises k zero j = rw (add-zero k) (omega arith)
    rises k (suc m) j = rw (add-suc k m) (omega (arith, rises k m j, length-append (columns_to (k + m) j) (kind_digits ds (p + (4 + 4 * (k + m))) (kind_of row s (4 + 4 * (k + m))) acts j)))

-- the columns of the last set's head under way: those before place r of the set are handed out
pub record Heading (row : Row) (ds : List ℕ) (p s : ℕ) (acts : ℕ → Action) (q : ℕ) (old : List ℕ) (w₀ : Writers) (new : List ℕ) (w : Writers) (r : ℕ) : Type 0 where
  pub from : 4 ≤ r
  pub to : r ≤ row.last
  pub fours : r % 4 ≡ 0
  pub kept : length new ≡ length old
  pub done : Grown q old new w₀ w (head_to row ds p s acts ((r - 4) / 4))

module _ (row : Row) (ds : List ℕ) (p s : ℕ) (acts : ℕ → Action) (q : ℕ) (old : List ℕ) (w₀ : Writers) where
  pub heading-none : 8 ≤ row.last → ((j : ℕ) → j < 4 → Ready (writer_of w₀ j).fill (writer_of w₀ j).held) → Heading row ds p s acts q old w₀ old w₀ 4
  unfolding head_to
  heading-none least ready = record { from = omega arith; to = omega arith; fours = omega arith; kept = refl; done = grown-none q old w₀ ready }

  module _ {mid : List ℕ} {w : Writers} {r : ℕ} (so_far : Heading row ds p s acts q old w₀ mid w r) where
    at : 4 + 4 * ((r - 4) / 4) ≡ r
    at = omega (arith, so_far.from, so_far.fours)

    next : (r + 4 - 4) / 4 ≡ suc ((r - 4) / 4)
    next = omega (arith, so_far.from)

    more-is : (j : ℕ) → head_to row ds p s acts ((r - 4) / 4) j ++ kind_digits ds (p + r) (kind_of row s r) acts j ≡ head_to row ds p s acts ((r + 4 - 4) / 4) j
    unfolding head_to
    more-is j = rw (next, at)

    -- a column more
    pub heading-more : {new : List ℕ} {v : Writers} → r < row.last → row.last % 4 ≡ 0 → length new ≡ length mid
        → Grown q mid new w v (kind_digits ds (p + r) (kind_of row s r) acts) → Heading row ds p s acts q old w₀ new v (r + 4)
    heading-more h f l more =
        record {
          from = omega arith;
          to = omega (arith, h, f, so_far.fours);
          fours = omega (arith, so_far.fours);
          kept = l ∙ so_far.kept;
          done = grown-as (head_to row ds p s acts ((r + 4 - 4) / 4)) (grown-more so_far.done more) (λ j _. more-is j);
        }

    module _ (sh : Shared row) (end : s ≡ row.sets - 1) where
      -- room for it
      pub heading-room : r < row.last → Roomy q (λ (j : ℕ). length (head_digits row ds p s acts j)) w₀
          → Roomy q (λ (j : ℕ). length (kind_digits ds (p + r) (kind_of row s r) acts j)) w
      heading-room h room =
          roomy_after (λ (j : ℕ). length (kind_digits ds (p + r) (kind_of row s r) acts j)) so_far.done room
          (λ j _.
          let count : (row.last - 4) / 4 ≡ (r + 4 - 4) / 4 + ((row.last - 4) / 4 - (r + 4 - 4) / 4) = omega (arith, h, sh.last_fours, so_far.fours) in
          let fits : length (head_to row ds p s acts ((r + 4 - 4) / 4) j) ≤ length (head_digits row ds p s acts j) =
          rw (← head-columns row ds p s acts sh end j, count) (rises row ds p s acts sh end ((r + 4 - 4) / 4) _ j) in
          omega (arith, fits, ap length (more-is j), length-append (head_to row ds p s acts ((r - 4) / 4) j) (kind_digits ds (p + r) (kind_of row s r) acts j)))

      pub heading-all : r ≡ row.last → Grown q old mid w₀ w (head_digits row ds p s acts)
      heading-all e =
          grown-as (head_digits row ds p s acts) so_far.done
          (λ j _. ap (λ (k : ℕ). head_to row ds p s acts ((k - 4) / 4) j) e ∙ head-columns row ds p s acts sh end j)

module _ (row : Row) (sh : Shared row) where
  pub last-head : (s : ℕ) → s ≡ row.sets - 1 → head_end row s ≡ row.last
  unfolding head_end
  last-head s e = rw (ne_eqb s 0 (λ n. omega (arith, sh.later_set)), eq-eqb s (row.sets - 1) e)

  pub set-short : row.set ≤ 2928
  set-short = omega (arith, sh.whole, sh.short, mul-le-mul_right {m = 2} {n = row.sets} row.set sh.later_set)

-- n columns, then m more
pub columns-more : {q : ℕ} {old mid new : List ℕ} {w r v : Writers} (ds : List ℕ) (p n m p' : ℕ) → p' ≡ p + 4 * n → Grown q old mid w r (run_digits ds p n)
    → Grown q mid new r v (run_digits ds p' m) → Grown q old new w v (run_digits ds p (n + m))
columns-more ds p n m p' e one two =
    grown-as (run_digits ds p (n + m)) (grown-more one two)
    (λ j h.
    let there : p' + j ≡ p + j + 4 * n = omega arith in
    ap (λ (a : ℕ). picked n ds (p + j) ++ picked m ds a) there ∙ sym (picked-cat ds (p + j) n m))

-- k columns from place p on
pub record Receiving (q : ℕ) (ds : List ℕ) (p columns : ℕ) (old : List ℕ) (w₀ : Writers) (new : List ℕ) (w : Writers) (k : ℕ) : Type 0 where
  pub to : k ≤ columns
  pub kept : length new ≡ length old
  pub done : Grown q old new w₀ w (run_digits ds p k)

pub receiving-none : (q : ℕ) (ds : List ℕ) (p columns : ℕ) (s : List ℕ) (w : Writers) → Roomy q (λ (j : ℕ). columns) w → Receiving q ds p columns s w s w 0
unfolding picked
receiving-none q ds p columns s w room = record { to = omega arith; kept = refl; done = grown-none q s w (λ j h. (room j h).ready) }

module _ {q : ℕ} {ds : List ℕ} {p columns : ℕ} {old : List ℕ} {w₀ : Writers} {mid : List ℕ} {w : Writers} {k : ℕ} (so_far : Receiving q ds p columns old w₀ mid w k) where
  pub receiving-more : (n : ℕ) {new : List ℕ} {r : Writers} → k + n ≤ columns → length new ≡ length mid → Grown q mid new w r (run_digits ds (p + 4 * k) n)
      → Receiving q ds p columns old w₀ new r (k + n)
  receiving-more n h l more = record { to = h; kept = l ∙ so_far.kept; done = columns-more ds p k n (p + 4 * k) refl so_far.done more }

  -- room for what is left
  pub receiving-room : (n : ℕ) → n ≤ columns - k → Roomy q (λ (j : ℕ). columns) w₀ → Roomy q (λ (j : ℕ). n) w
  receiving-room n h room = roomy_after (λ (j : ℕ). n) so_far.done room (λ j jh. omega (arith, so_far.to, picked-length k ds (p + j)))

  pub receiving-all : k ≡ columns → Grown q old mid w₀ w (run_digits ds p columns)
  receiving-all e = rw (← e) so_far.done
