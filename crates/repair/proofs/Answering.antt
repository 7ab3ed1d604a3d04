-- What the judged call answers and leaves: refused, or repaired and counted.
use mathlib.Core.Path.{◌≡◌, refl}
use mathlib.Core.Bool.{Bool, true, false}
use mathlib.Core.List.{List, [], ◌∷◌}
use Prim.Native.Nat.{ℕ, ◌*◌, ◌<◌}
use native.Mathlib.Omega.{arith}
use native.Mathlib.Nat.{div-add-mod'}
use lib.Dec.{lit<}
use lib.ListN.{length, get_or}
use borrow.Author.Tests.{ne_eqb}
use Rattle.table.specs.declared.Row.{Row}
use Rattle.levels.specs.Table.{Shared}
use Rattle.levels.specs.Sizes.{bad_line}
use Rattle.levels.specs.Faults.{bad_earlier}
use Rattle.levels.proofs.Judged.{line-frames}
use Rattle.tally.specs.Tally.{sum_of, sums_of}
use Rattle.tally.proofs.Sums.{sums_at}
use Rattle.repair.specs.Repair.{Repaired}
use Rattle.repair.specs.Repair.{changes, changed, number_of, refused_with, repaired_on, line_on}
use Rattle.repair.specs.Mending.{Whole, Mended}
use Rattle.repair.proofs.Frames.{all_done}

-- the counts that a repair answers, of the fifteen
abbrev pub counts : List ℕ → Repaired
counts sums =
    record {
      refusal = 0;
      word = get_or sums 0 0;
      control = get_or sums 3 0 ∷ get_or sums 6 0 ∷ get_or sums 9 0 ∷ get_or sums 12 0 ∷ [];
      stuffing = get_or sums 4 0 ∷ get_or sums 7 0 ∷ get_or sums 10 0 ∷ get_or sums 13 0 ∷ [];
      national = get_or sums 2 0;
    }

module _ (row : Row) (earlier : ℕ) (line : List ℕ) where
  pub bad-line-two : bad_line row (length line) ≡ true → number_of row earlier (length line) ≡ 2
  unfolding number_of
  bad-line-two e = rw e

  module _ (good : bad_line row (length line) ≡ false) where
    pub bad-earlier-five : bad_earlier row earlier ≡ true → number_of row earlier (length line) ≡ 5
    unfolding number_of
    bad-earlier-five e = rw (good, e)

    pub none-refused : bad_earlier row earlier ≡ false → number_of row earlier (length line) ≡ 0
    unfolding number_of
    none-refused e = rw (good, e)

    pub whole-line : Shared row → Whole row line
    whole-line sh =
        let found = line-frames row (length line) good in
        record { shared = sh; frames = omega (arith, div-add-mod' (length line) row.bytes, found.0); few = found.1 }

  pub refused_all : (national : Bool) (n : ℕ) → (n ≡ 0 → ⊥) → number_of row earlier (length line) ≡ n
      → (refused_with n ≡ repaired_on row earlier national line) × (line ≡ line_on row earlier national line)
  refused_all national n z e = rw (e, ne_eqb n 0 z) (refl, refl)

  pub repaired-all : {national : Bool} {new sums : List ℕ} → number_of row earlier (length line) ≡ 0 → Mended row earlier national line (8 * length line) new sums
      → (counts sums ≡ repaired_on row earlier national line) × (new ≡ line_on row earlier national line)
  unfolding changed
  repaired-all {national = national} {sums = sums} z m = rw z (rw m.counted (answers), all_done m refl)
    where
      of : (k : ℕ) → ℕ
      of k = sum_of row (changes row earlier national line) (8 * length line) k

      at : (k : ℕ) → k < 15 → get_or (sums_of row (changes row earlier national line) (8 * length line)) k 0 ≡ of k
      at k h = sums_at row (changes row earlier national line) (8 * length line) k h

      answers : counts (sums_of row (changes row earlier national line) (8 * length line)) ≡ changed row earlier national line
      answers =
          rw (at 0 (lit< tt), at 3 (lit< tt), at 6 (lit< tt), at 9 (lit< tt), at 12 (lit< tt), at 2 (lit< tt), at 4 (lit< tt), at 7 (lit< tt), at 10 (lit< tt), at 13 (lit< tt)) refl
