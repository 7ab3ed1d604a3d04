-- The counts are the digits in which input and result differ, by kind and tributary, and they add up to all of them.
use Rattle.std.specs.Prelude.{Some}
use mathlib.Core.Path.{◌≡◌, refl, sym, ◌∙◌}
use mathlib.Core.Logic.{◌≢◌}
use mathlib.Core.Bool.{Bool, cond, true, false, not, ◌&&◌}
use mathlib.Core.List.{List}
use Prim.Native.Nat.{ℕ, ◌+◌, ◌*◌, ◌%◌, ◌<◌}
use native.Mathlib.Omega.{arith}
use lib.Dec.{eqb, lit<}
use lib.ListN.{length, get_or}
use borrow.Author.Tests.{eq-eqb, ne_eqb}
use Rattle.digits.specs.Digits.{digits_of, tab}
use Rattle.digits.specs.Sums.{sum_to}
use Rattle.digits.proofs.Sums.{sum-all}
use Rattle.table.specs.declared.Row.{Row}
use Rattle.table.specs.Table.{level_of}
use Rattle.levels.specs.declared.order.Action.{Action}
use Rattle.levels.specs.declared.places.ServiceDigit.{ServiceDigit}
use Rattle.levels.specs.declared.places.ServiceDigit.TheVariants.{RemoteAlarm, FirstNational, SecondNational, ThirdNational, Fixed}
use Rattle.levels.specs.declared.places.Kind.{Kind}
use Rattle.levels.specs.declared.places.Kind.TheVariants.{Word, Service, Control, Justification, Tributary}
use Rattle.levels.specs.Sizes.{frames_of}
use Rattle.levels.specs.Places.{kind_at, pos_of}
use Rattle.levels.specs.Order.{actions, carried}
use Rattle.levels.specs.Word.{word_digit}
use Rattle.reading.specs.Notes.{vote_at, notes_of}
use Rattle.tally.specs.Tally.{service_number, sum_number, number_at, sum_of, sums_of, differ_at}
use Rattle.tally.proofs.Sums.{sums-agree, adds-up}
use Rattle.repair.specs.Repair.{Repaired}
use Rattle.repair.specs.Repair.{repaired_service, repaired_by, repaired_digit, changes, changed, repaired_line}
use Rattle.repair_promises.specs.Repairing.{Repairs, fifteen, CountsDiffering, CountsDifferingAt}
use Rattle.repair_promises.proofs.Places.{repaired-at}
use Rattle.repair_promises.proofs.Accepted.{repair-level, repair-answer, repair-line}

-- a sum that no word, national, control or justification place counts in
abbrev Idle : ℕ → Type 0
Idle k = (0 ≢ k) × (2 ≢ k) × ((j : ℕ) → (3 + 3 * j ≢ k) × (4 + 3 * j ≢ k))

-- from 5 on every third: the ordinary digits of each tributary
third : (k : ℕ) → 2 < k → k % 3 ≡ 2 → Idle k
third k some h = ((λ e. omega arith), (λ e. omega arith), λ j. ((λ e. omega arith), λ e. omega arith))

pub and-false : (t : Bool) → t && false ≡ false
and-false true = refl
and-false false = refl

-- a place that changes counts in no such sum
idle-service : (national : Bool) (came k : ℕ) → 2 ≢ k → (s : ServiceDigit) → not (eqb came (repaired_service national came s)) && eqb (service_number s) k ≡ false
idle-service national came k other RemoteAlarm = rw (eq-eqb came came refl)
idle-service national came k other FirstNational = rw (ne_eqb 2 k other) (and-false (not (eqb came (cond national 1 came))))
idle-service national came k other SecondNational = rw (ne_eqb 2 k other) (and-false (not (eqb came (cond national 1 came))))
idle-service national came k other ThirdNational = rw (ne_eqb 2 k other) (and-false (not (eqb came (cond national 1 came))))
idle-service national came k other Fixed = rw (eq-eqb came came refl)

idle-place : (row : Row) (national stuffed : Bool) (act : Action) (r came j k : ℕ) → Idle k → (kind : Kind)
    → not (eqb came (repaired_by row national stuffed act r came kind)) && eqb (sum_number kind j) k ≡ false
idle-place row national stuffed act r came j k idle Word = rw (ne_eqb 0 k idle.0) (and-false (not (eqb came (word_digit row r))))
idle-place row national stuffed act r came j k idle (Service s) = idle-service national came k idle.1 s
idle-place row national stuffed act r came j k idle Control = rw (ne_eqb (3 + 3 * j) k (idle.2 j).0) (and-false (not (eqb came (cond stuffed 1 0))))
idle-place row national stuffed act r came j k idle (Justification sign) =
    rw (ne_eqb (4 + 3 * j) k (idle.2 j).1) (and-false (not (eqb came (cond (carried (Justification sign) act) came 1))))
idle-place row national stuffed act r came j k idle Tributary = rw (eq-eqb came came refl)

module _ (row : Row) (earlier : ℕ) (national : Bool) (line : List ℕ) where
  abbrev left : List ℕ
  left = repaired_line row earlier national line

  abbrev n : ℕ
  n = 8 * length line

  -- what changes is where input and result differ
  differ : (p : ℕ) → p < n → differ_at line left p ≡ changes row earlier national line p
  differ p h = rw (repaired-at row earlier national line p h)

  idle-sum : (k : ℕ) → Idle k → sum_of row (changes row earlier national line) n k ≡ 0
  unfolding repaired_digit number_at
  idle-sum k idle =
      sum-all n 0 (λ (p : ℕ). cond (changes row earlier national line p && eqb (number_at row p) k) 1 0)
      (λ p h.
      let f = (pos_of row p).frame in
      let j = p % 4 in
      let vote = (vote_at row (digits_of line) f j).stuffed in
      let act = actions row earlier (notes_of row (digits_of line) (frames_of row (length line))) j f in
      rw (idle-place row national vote act (pos_of row p).place (get_or (digits_of line) p 0) j k idle (kind_at row p)))
      ∙ omega arith

  by_kind : sums_of row (changes row earlier national line) n ≡ fifteen (changed row earlier national line)
  unfolding changed sums_of tab
  by_kind =
      rw (
        idle-sum 1 ((λ e. omega arith), (λ e. omega arith), λ j. ((λ e. omega arith), λ e. omega arith)),
        idle-sum 5 (third 5 (lit< tt) refl),
        idle-sum 8 (third 8 (lit< tt) refl),
        idle-sum 11 (third 11 (lit< tt) refl),
        idle-sum 14 (third 14 (lit< tt) refl),
      )

  counts-on : CountsDiffering row line left (changed row earlier national line)
  unfolding sum_to
  counts-on =
      let same = sums-agree row (differ_at line left) (changes row earlier national line) n differ ∙ by_kind in
      record {
        by_kind = same;
        all = sym (adds-up row (differ_at line left) n) ∙ rw same (omega arith);
      }

-- of an accepted repair
pub counts-differing : (level earlier : ℕ) (national : Bool) (line : List ℕ) (answer : Repaired) (new : List ℕ)
    → Repairs level earlier national line answer new → CountsDifferingAt level line new answer
counts-differing level earlier national line answer new ok = let on = repair-level level earlier national line answer new ok in go on.0 on.1
  where
    go : (row : Row) → level_of level ≡ Some row → CountsDifferingAt level line new answer
    go row e = rw (e, repair-answer level earlier national line answer new ok row e, repair-line level earlier national line answer new ok row e) (counts-on row earlier national line)
