-- The switch off sets no national digit; and on a level without national digits, 12 and 14, the switch does nothing.
use Rattle.std.specs.Prelude.{Some}
use mathlib.Core.Path.{◌≡◌, refl, sym, ◌∙◌, ap}
use mathlib.Core.Bool.{Bool, cond, true, false, false≢true, not, ◌&&◌}
use mathlib.Core.List.{List}
use Prim.Native.Nat.{ℕ, ◌+◌, ◌*◌, ◌%◌, ◌≤◌, ◌<◌}
use native.Mathlib.Omega.{arith}
use native.Mathlib.Nat.{zero-add}
use lib.Dec.{eqb}
use lib.ListN.{length, get_or}
use borrow.Author.Tests.{eq-eqb, ne_eqb}
use Rattle.digits.specs.Digits.{digits_of, bytes_of, tab}
use Rattle.digits.proofs.Laws.{tab-length, tab-at, tab-of}
use Rattle.digits.proofs.Sums.{sum-all, sum_same}
use Rattle.table.specs.declared.Row.{Row}
use Rattle.table.specs.Table.{row12, row14, level_of}
use Rattle.levels.specs.declared.order.Action.{Action}
use Rattle.levels.specs.declared.places.ServiceDigit.{ServiceDigit}
use Rattle.levels.specs.declared.places.ServiceDigit.TheVariants.{RemoteAlarm, FirstNational, SecondNational, ThirdNational, Fixed}
use Rattle.levels.specs.declared.places.Kind.{Kind}
use Rattle.levels.specs.declared.places.Kind.TheVariants.{Word, Service, Control, Justification, Tributary}
use Rattle.levels.specs.Table.{Shared}
use Rattle.levels.specs.Sizes.{frames_of}
use Rattle.levels.specs.Places.{kind_at, pos_of}
use Rattle.levels.specs.Order.{actions}
use Rattle.levels.proofs.Rows.{shared12, shared14}
use Rattle.reading.specs.Notes.{vote_at, notes_of}
use Rattle.tally.specs.Tally.{sum_number, number_at, sum_of}
use Rattle.repair.specs.Repair.{Repaired}
use Rattle.repair.specs.Repair.{repaired_service, repaired_by, repaired_digit, becomes, repaired_line, changes, changed}
use Rattle.repair_promises.specs.Repairing.{Repairs, is_national, SwitchIdle}
use Rattle.repair_promises.proofs.National.{national_kind, national-from}
use Rattle.repair_promises.proofs.Accepted.{repair-level, repair-answer}
use Rattle.repair_promises.proofs.Counts.{and-false}

-- ---- off

service-off : (came : ℕ) (s : ServiceDigit) → repaired_service false came s ≡ came
service-off came RemoteAlarm = refl
service-off came FirstNational = refl
service-off came SecondNational = refl
service-off came ThirdNational = refl
service-off came Fixed = refl

-- no place that changes counts as national
off-place : (row : Row) (stuffed : Bool) (act : Action) (r came j : ℕ) (kind : Kind)
    → not (eqb came (repaired_by row false stuffed act r came kind)) && eqb (sum_number kind j) 2 ≡ false
off-place row stuffed act r came j Word = and-false (not (eqb came (repaired_by row false stuffed act r came Word)))
off-place row stuffed act r came j (Service s) = rw (service-off came s, eq-eqb came came refl)
off-place row stuffed act r came j Control = rw (ne_eqb (3 + 3 * j) 2 (λ e. omega arith)) (and-false (not (eqb came (repaired_by row false stuffed act r came Control))))
off-place row stuffed act r came j (Justification sign) =
    rw (ne_eqb (4 + 3 * j) 2 (λ e. omega arith)) (and-false (not (eqb came (repaired_by row false stuffed act r came (Justification sign)))))
off-place row stuffed act r came j Tributary = rw (eq-eqb came came refl)

off-none : (row : Row) (earlier : ℕ) (line : List ℕ) → (changed row earlier false line).national ≡ 0
unfolding changed repaired_digit number_at
off-none row earlier line =
    sum-all (8 * length line) 0 (λ (p : ℕ). cond (changes row earlier false line p && eqb (number_at row p) 2) 1 0)
    (λ p h.
    rw
    (off-place row (vote_at row (digits_of line) (pos_of row p).frame (p % 4)).stuffed (actions row earlier (notes_of row (digits_of line) (frames_of row (length line))) (p % 4) (pos_of row p).frame)
    (pos_of row p).place (get_or (digits_of line) p 0) (p % 4) (kind_at row p)))
    ∙ omega arith

-- with the switch off no national digit is changed
pub off-changes-none : (level earlier : ℕ) (line : List ℕ) (answer : Repaired) (left : List ℕ) → Repairs level earlier false line answer left → answer.national ≡ 0
off-changes-none level earlier line answer left ok =
    let on = repair-level level earlier false line answer left ok in
    ap (λ (r : Repaired). r.national) (repair-answer level earlier false line answer left ok on.0 on.1) ∙ off-none on.0 earlier line

-- ---- on, where there are none

service-idle : (came : ℕ) (s : ServiceDigit) → is_national s ≡ false → repaired_service true came s ≡ repaired_service false came s
service-idle came RemoteAlarm n = refl
service-idle came FirstNational n = absurd (false≢true (sym n))
service-idle came SecondNational n = absurd (false≢true (sym n))
service-idle came ThirdNational n = absurd (false≢true (sym n))
service-idle came Fixed n = refl

kind-idle : (row : Row) (stuffed : Bool) (act : Action) (r came : ℕ) (kind : Kind) → national_kind kind ≡ false
    → repaired_by row true stuffed act r came kind ≡ repaired_by row false stuffed act r came kind
kind-idle row stuffed act r came Word n = refl
kind-idle row stuffed act r came (Service s) n = service-idle came s n
kind-idle row stuffed act r came Control n = refl
kind-idle row stuffed act r came (Justification sign) n = refl
kind-idle row stuffed act r came Tributary n = refl

module _ (row : Row) (sh : Shared row) (without : row.nationals ≡ 0) (earlier : ℕ) (line : List ℕ) where
  none-national : (p : ℕ) → national_kind (kind_at row p) ≡ false
  none-national p = go (national_kind (kind_at row p)) refl
    where
      outside : (r : ℕ) → row.national ≤ r → r < row.national + row.nationals → ⊥
      outside r from to = omega arith

      go : (t : Bool) → national_kind (kind_at row p) ≡ t → t ≡ false
      go true e = let at = national-from row sh (pos_of row p).set (pos_of row p).place e in absurd (outside (pos_of row p).place at.1 at.2)
      go false e = refl

  becomes-idle : (p : ℕ) → becomes row earlier true line p ≡ becomes row earlier false line p
  unfolding repaired_digit
  becomes-idle p =
      kind-idle row (vote_at row (digits_of line) (pos_of row p).frame (p % 4)).stuffed (actions row earlier (notes_of row (digits_of line) (frames_of row (length line))) (p % 4) (pos_of row p).frame)
      (pos_of row p).place (get_or (digits_of line) p 0) (kind_at row p) (none-national p)

  sum-idle : (k : ℕ) → sum_of row (changes row earlier true line) (8 * length line) k ≡ sum_of row (changes row earlier false line) (8 * length line) k
  sum-idle k =
      sum_same (8 * length line) (λ (p : ℕ). cond (changes row earlier true line p && eqb (number_at row p) k) 1 0) (λ (p : ℕ). cond (changes row earlier false line p && eqb (number_at row p) k) 1 0)
      (λ p h. rw (becomes-idle p))

  changed-idle : changed row earlier true line ≡ changed row earlier false line
  unfolding changed
  changed-idle = rw (sum-idle 0, sum-idle 3, sum-idle 6, sum-idle 9, sum-idle 12, sum-idle 4, sum-idle 7, sum-idle 10, sum-idle 13, sum-idle 2)

  line-idle : repaired_line row earlier true line ≡ repaired_line row earlier false line
  unfolding repaired_line
  line-idle =
      let n = 8 * length line in
      ap (λ (ds : List ℕ). bytes_of (length line) ds)
      (tab-of (tab n 0 (becomes row earlier true line)) n (becomes row earlier false line) (tab-length n 0 (becomes row earlier true line))
      (λ p h. tab-at n 0 (becomes row earlier true line) p h ∙ ap (becomes row earlier true line) (zero-add p) ∙ becomes-idle p))

switch-idle : (level : ℕ) (row : Row) → level_of level ≡ Some row → Shared row → row.nationals ≡ 0 → (earlier : ℕ) (line : List ℕ) → SwitchIdle level earlier line
switch-idle level row e sh without earlier line =
    record { answer = rw (e, changed-idle row sh without earlier line); line_left = rw (e, line-idle row sh without earlier line) }

-- at levels 12 and 14 the switch does nothing, and is not refused
pub idle-at-12 : (earlier : ℕ) (line : List ℕ) → SwitchIdle 12 earlier line
unfolding level_of
idle-at-12 = switch-idle 12 row12 refl shared12 refl

pub idle-at-14 : (earlier : ℕ) (line : List ℕ) → SwitchIdle 14 earlier line
unfolding level_of
idle-at-14 = switch-idle 14 row14 refl shared14 refl
