-- What the physics speaks of is there: the line of a right, a late or an early multiplexer as it left it is worn in no digit, and the path that never steps explains it.
use mathlib.Core.Path.{◌≡◌, refl, sym, ◌∙◌, subst}
use mathlib.Core.Bool.{Bool, cond, true, false}
use mathlib.Core.List.{List}
use Prim.Native.Nat.{ℕ, zero, suc, ◌+◌, ◌*◌, ◌≤◌, ◌<◌}
use native.Mathlib.Omega.{arith}
use lib.Dec.{eqb}
use lib.ListN.{length, get_or, drop}
use borrow.Author.Tests.{eq-eqb}
use Rattle.digits.specs.Digits.{digits_of, differing, Binary}
use Rattle.digits.proofs.Lists.{differing-self}
use Rattle.digits.proofs.Sums.{sum-all, sum-zero}
use Rattle.table.specs.declared.Row.{Row}
use Rattle.levels.specs.Table.{Shared}
use Rattle.levels.specs.Sizes.{frames_of}
use Rattle.levels.specs.declared.order.Action.{Action}
use Rattle.levels.specs.Order.{carries, actions}
use Rattle.promises.specs.Damage.{group_at, allowed}
use Rattle.promises.specs.Carried.{Room}
use Rattle.judge_promises.specs.Verdicts.{Index, acts_on, acted_line}
use Rattle.judge_promises.specs.Shown.{made_line}
use Rattle.judge_promises.proofs.Shown.{bytes_back, line-bytes}
use Rattle.slips.specs.Slips.{apart, wrong_of}
use Rattle.verdict_blocks.specs.Blocks.{zero_at, start_of}
use Rattle.verdict_blocks.specs.Readings.{read_by, counts_by}
use Rattle.verdict_promises.specs.Paths.{wrongs_on, slips_on}
use Rattle.verdict_promises.specs.Worn.{changed_in, Worn, Along, read_count, Explains}
use Rattle.verdict_promises.proofs.Cuts.{frames-of}
use Rattle.verdict_promises.proofs.Steady.{Alike}
use Rattle.verdict_promises.proofs.Right.{right-path}
use Rattle.verdict_promises.proofs.Worn.{wrong-along}

-- a line beside itself has no digit changed
pub none-changed : (row : Row) (acts : ℕ → Action) (j : ℕ) (line : List ℕ) (x : ℕ) → changed_in row acts j line line x ≡ 0
unfolding changed_in
none-changed row acts j line x =
    sum-all x 0 (λ (y : ℕ). cond (carries row acts (4 * y + j)) (cond (eqb (get_or line (4 * y + j) 0) (get_or line (4 * y + j) 0)) 0 1) 0) (λ y h. go (carries row acts (4 * y + j)) y)
    ∙ omega arith
  where
    go : (c : Bool) (y : ℕ) → ◌≡◌ {A = ℕ} (cond c (cond (eqb (get_or line (4 * y + j) 0) (get_or line (4 * y + j) 0)) 0 1) 0) 0
    go true y = rw (eq-eqb (get_or line (4 * y + j) 0) (get_or line (4 * y + j) 0) refl) refl
    go false y = refl

-- the path that never steps
abbrev pub still : ℕ → ℕ
still i = zero_at

pub still-slips : (n : ℕ) → slips_on still n ≡ 0
unfolding slips_on
still-slips n = sum-all n 0 (λ (i : ℕ). apart (still (suc i)) (still i)) (λ i h. none) ∙ omega arith
  where
    none : apart zero_at zero_at ≡ 0
    none = omega arith

none_wrong : (lent : ℕ → ℕ) (ds : List ℕ) (n : ℕ) → wrongs_on lent ds still n ≤ 0 → (i : ℕ) → i < n → wrong_of lent (i + zero_at) (get_or ds i 0) ≡ 0
unfolding wrongs_on
none_wrong lent ds n few i h = sum-zero n (λ (i : ℕ). wrong_of lent (i + still (suc i)) (get_or ds i 0)) (omega arith) i h

module _ (row : Row) (sh : Shared row) (index : Index) (earlier : ℕ) (notes : List ℕ) (unknown : ℕ) (t : ℕ → List ℕ) (binary : (j : ℕ) → j < 4 → Binary (t j)) (room : Room row (length notes) t) (j : ℕ) (hj : j < 4) where
  abbrev line : List ℕ
  line = made_line row index earlier notes unknown t

  abbrev votes : List ℕ
  votes = acts_on row index earlier notes unknown

  abbrev sent : List ℕ
  sent = acted_line row earlier notes votes t

  pub back : digits_of line ≡ sent
  back = bytes_back row sh index earlier notes unknown t binary

  abbrev pub worn-shown : Worn row index earlier t line j 0
  worn-shown =
      record {
        notes = notes;
        unknown = unknown;
        whole = line-bytes row sh index earlier notes unknown t binary;
        room = room;
        few_controls = λ f h. subst (λ (ds : List ℕ). differing (group_at row sent f j) (group_at row ds f j) ≤ allowed row) (sym back) (omega (arith, differing-self (group_at row sent f j)));
        few_digits =
            subst (λ (ds : List ℕ). changed_in row (actions row (get_or votes 0 0) (drop 1 votes) j) j sent ds (2 * length line) ≤ 0) (sym back)
            (omega (arith, none-changed row (actions row (get_or votes 0 0) (drop 1 votes) j) j sent (2 * length line)));
      }

  -- held against the tributary's digits themselves, by votes for which its frames do the same
  pub explains-shown : (few : length notes ≤ 144115188075855872) (by : List ℕ) → Alike row j (length notes) by votes → (lent : ℕ → ℕ)
      → Along lent (t j) still (read_count row line j by) → Explains row line lent j by (t j) still
  explains-shown few by alike lent along =
      let F = length notes in
      let frames : frames_of row (length line) ≡ F = frames-of row sh (length line) F (line-bytes row sh index earlier notes unknown t binary) in
      let wrong = wrong-along row sh index earlier t line j 0 hj worn-shown by alike lent still (rw frames at along) in
      record {
        few_frames = rw frames few;
        few_slips = omega (arith, still-slips (read_count row line j by));
        is_path = rw frames (right-path lent (read_by row line by j) (counts_by row by j) F (λ i h. none_wrong lent (read_by row line by j) (start_of (counts_by row by j) F) wrong i h));
        along = along;
      }
