-- Two lines as they are lent: where they are not refused they are of one length and short, and a stretch of their places is counted place by place.
use mathlib.Core.Path.{◌≡◌, refl, sym, ◌∙◌}
use mathlib.Core.Bool.{Bool, cond, true, false}
use mathlib.Core.List.{List}
use Prim.Native.Nat.{ℕ, zero, suc, ◌+◌, ◌*◌, ◌≤◌}
use native.Mathlib.Omega.{arith}
use native.Mathlib.Nat.{div-add-mod'}
use native.Mathlib.Numerals.{add-one}
use lib.Dec.{eqb}
use lib.ListN.{length, get_or, replicate}
use borrow.Author.Tests.{le-leb, lt-leb, eqb-true}
use Rattle.digits.specs.Sums.{sum_to}
use Rattle.digits.proofs.Sums.{sum-most}
use Rattle.table.specs.declared.Row.{Row}
use Rattle.levels.specs.Table.{Shared}
use Rattle.levels.specs.Sizes.{frames_of, bad_line}
use Rattle.levels.proofs.Judged.{line-frames, unrefused, short-line}
use Rattle.tally.specs.Tally.{number_at, one_more, differ_at}
use Rattle.tally.proofs.Sums.{all_more, sums_same, sums-more, sums_none, sum-small}
use Rattle.differing.specs.Counting.{Lines}
use Rattle.compare.specs.Lines.{lines_refusal, differ_from}
use Rattle.compare.specs.Summing.{Summed}

equal-told : (t : Bool) → ◌≡◌ {A = ℕ} (cond t 0 2) 0 → t ≡ true
equal-told true e = refl
equal-told false e = absurd (two e)
  where
    two : ◌≡◌ {A = ℕ} 2 0 → ⊥
    two e = omega arith

-- what accepted lines are
pub lines_fit : (row : Row) → Shared row → (one other : List ℕ) → lines_refusal row (length one) (length other) ≡ 0 → Lines row one other
unfolding lines_refusal
lines_fit row sh one other e =
    let two = unrefused (bad_line row (length one)) 2 _ (λ z. omega arith) e in
    let whole = line-frames row (length one) two.0 in
    let frames : length one ≡ frames_of row (length one) * row.bytes = omega (arith, div-add-mod' (length one) row.bytes, whole.0) in
    record {
      shared = sh;
      same_length = sym (eqb-true (length other) (length one) (equal-told (eqb (length other) (length one)) two.1));
      short = short-line row sh (frames_of row (length one)) (length one) whole.1 frames;
      whole = frames;
    }

-- ---- a stretch, place by place

at_most_one : (t : Bool) → cond {A = ℕ} t 1 0 ≤ 1
at_most_one true = omega arith
at_most_one false = omega arith

module _ (row : Row) (one other : List ℕ) (first : ℕ) where
  from-here : (p : ℕ) → first ≤ p → differ_from one other first p ≡ differ_at one other p
  from-here p h = rw (le-leb first p h) refl

  module _ (p all : ℕ) (sums : List ℕ) (s : Summed row one other first p all sums) where
    passed : differ_from one other first p ≡ false → Summed row one other first (p + 1) all sums
    passed e =
        record {
          the_all = s.the_all ∙ sym (all_more row (differ_from one other first) p ∙ rw e (omega arith));
          the_sums = s.the_sums ∙ sym (sums_same row (differ_from one other first) p e);
        }

    pub summed-pass : first ≤ p → differ_at one other p ≡ false → Summed row one other first (p + 1) all sums
    summed-pass h e = passed (from-here p h ∙ e)

    pub summed-more : first ≤ p → differ_at one other p ≡ true → Summed row one other first (p + 1) (all + 1) (one_more sums (number_at row p))
    summed-more h e =
        let e' : differ_from one other first p ≡ true = from-here p h ∙ e in
        record {
          the_all = sym (all_more row (differ_from one other first) p ∙ rw (e', ← s.the_all) refl);
          the_sums = rw s.the_sums (sym (sums-more row (differ_from one other first) p e'));
        }

    -- no sum is larger than the places are many, nor are all of them
    pub summed-small : (k : ℕ) → get_or sums k 0 ≤ p
    summed-small k = rw s.the_sums (sum-small row (differ_from one other first) p k)

    pub summed-all : all ≤ p
    summed-all =
        omega (arith, s.the_all, sum-most p 1 (λ (q : ℕ). cond (differ_from one other first q) 1 0) (λ q _. at_most_one (differ_from one other first q)))

  -- before its first place a stretch has nothing
  pub summed-none : (n : ℕ) → n ≤ first → Summed row one other first n 0 (replicate 15 0)
  unfolding sum_to
  summed-none zero h = record { the_all = refl; the_sums = sym (sums_none row (differ_from one other first)) }
  summed-none (suc n) h =
      rw (← add-one n) (passed n 0 (replicate 15 0) (summed-none n (omega arith)) (rw (lt-leb first n (omega arith)) refl))
