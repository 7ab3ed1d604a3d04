-- What an accepted repair is over its level's row: a line of whole frames, repaired, and its changes counted.
use Rattle.std.specs.Prelude.{Some}
use mathlib.Core.Path.{◌≡◌, refl, sym, ◌∙◌, ap}
use mathlib.Core.Bool.{Bool, false}
use mathlib.Core.List.{List}
use Prim.Native.Nat.{ℕ}
use native.Mathlib.Omega.{arith}
use lib.ListN.{length}
use borrow.Author.Tests.{eq-eqb}
use Rattle.table.specs.declared.Row.{Row}
use Rattle.table.specs.Table.{level_of}
use Rattle.levels.specs.Sizes.{bad_line}
use Rattle.levels.specs.Faults.{bad_earlier}
use Rattle.levels.proofs.Judged.{unrefused}
use Rattle.levels.proofs.Refusals.{EarlierFits}
use Rattle.promises.proofs.Accepted.{some_level, zero-refusal, shared}
use Rattle.repair.specs.Repair.{Repaired}
use Rattle.repair.specs.Repair.{number_of, refused_with, changed, repaired_on, repaired, repaired_line}
use Rattle.repair.specs.Mending.{Whole}
use Rattle.repair.proofs.Answering.{whole-line}
use Rattle.repair_promises.specs.Repairing.{Repairs}

module _ (level earlier : ℕ) (national : Bool) (line : List ℕ) (answer : Repaired) (left : List ℕ) (ok : Repairs level earlier national line answer left) where
  none : (repaired level earlier national line).refusal ≡ 0
  none = sym (ap (λ (r : Repaired). r.refusal) ok.met.0) ∙ ok.accepted

  pub repair-level : (row : Row) × (level_of level ≡ Some row)
  repair-level = some_level (λ (r : Repaired). r.refusal ≡ 0) (level_of level) (λ (row : Row). repaired_on row earlier national line) (refused_with 1) (λ e. omega arith) none

  module _ (row : Row) (e : level_of level ≡ Some row) where
    pub no_number : number_of row earlier (length line) ≡ 0
    no_number =
        zero-refusal (λ (r : Repaired). r.refusal) (number_of row earlier (length line)) (changed row earlier national line) (refused_with (number_of row earlier (length line))) refl (rw e at none)

    good : (bad_line row (length line) ≡ false) × (bad_earlier row earlier ≡ false)
    unfolding number_of
    good =
        let two = unrefused (bad_line row (length line)) 2 _ (λ z. omega arith) no_number in
        (two.0, (unrefused (bad_earlier row earlier) 5 0 (λ z. omega arith) two.1).0)

    pub repair-vote : EarlierFits row earlier
    repair-vote = good.1

    pub repair-whole : Whole row line
    repair-whole = whole-line row earlier line good.0 (shared level row e)

    pub repair-answer : answer ≡ changed row earlier national line
    repair-answer = ok.met.0 ∙ rw (e, eq-eqb (number_of row earlier (length line)) 0 no_number)

    pub repair-line : left ≡ repaired_line row earlier national line
    repair-line = ok.met.1 ∙ rw (e, eq-eqb (number_of row earlier (length line)) 0 no_number)
