-- The digits cut into whole stretches, and the alarm as the fold over them: proofs/Alarms.antt shows that to count digit by digit, as the
-- receiver does (`counted`), is to go over these.
use Rattle.std.specs.Prelude.{◌≡◌, Bool, false, List, [], ◌∷◌, ℕ, zero, suc, ◌+◌, ◌*◌, ◌/◌, ◌≤◌, ◌<◌, length, take, drop}
use Rattle.digits.specs.Digits.{zeros_in}
use Rattle.table.specs.declared.Row.{Row}
use Rattle.pieces.specs.declared.alarm.Stretch.{Stretch}
use Rattle.pieces.specs.Alarm.{is_few, alarm_after, counted, fresh_stretch}

-- the first n stretches of these digits, N digits each
unfoldable pub stretches_of : Row → ℕ → List ℕ → List (List ℕ)
stretches_of row zero ds = []
stretches_of row (suc n) ds = take row.digits ds ∷ stretches_of row n (drop row.digits ds)

-- the alarm after these stretches, where the stretch before them had few zeros or not, and the alarm stood or not
unfoldable pub alarm_over : Row → Bool → Bool → List (List ℕ) → Bool
alarm_over row few alarm [] = alarm
alarm_over row few alarm (x ∷ xs) = alarm_over row (is_few row (zeros_in x)) (alarm_after (is_few row (zeros_in x)) few alarm) xs

-- the alarm after a history, from reset on: of its whole stretches, wherever its pieces were cut
abbrev pub alarm_of : Row → List ℕ → Bool
alarm_of row ds = alarm_over row false false (stretches_of row (length ds / row.digits) ds)

-- wherever they begin, N of these digits in a row have few zeros; or, with no for yes, have more
abbrev pub EverywhereFew : Row → Bool → List ℕ → Type 0
EverywhereFew row few ds = (i : ℕ) → i + row.digits ≤ length ds → is_few row (zeros_in (take row.digits (drop i ds))) ≡ few

-- ---- a second time, by the stretches' numbers and without a fold

-- stretch k of a history, from 0; whether it has few zeros, or more
abbrev pub stretch_at : Row → List ℕ → ℕ → List ℕ
stretch_at row ds k = take row.digits (drop (k * row.digits) ds)

abbrev pub FewAt : Row → List ℕ → ℕ → Type 0
FewAt row ds k = zeros_in (stretch_at row ds k) ≤ row.limit

abbrev pub MoreAt : Row → List ℕ → ℕ → Type 0
MoreAt row ds k = row.limit < zeros_in (stretch_at row ds k)

-- of the first n stretches two in a row have each few, and no two in a row after the first of these have each more. The receiver's alarm stands after a
-- history exactly if this holds of its whole stretches (proofs/Standing.antt)
pub record Stands (row : Row) (ds : List ℕ) (n : ℕ) : Type 0 where
  pub begun : ℕ
  pub within : begun + 1 < n
  pub few : FewAt row ds begun × FewAt row ds (begun + 1)
  pub not_ended : (k : ℕ) → begun < k → k + 1 < n → MoreAt row ds k → MoreAt row ds (k + 1) → ⊥

-- what the receiver knows after n whole stretches of a history
unfoldable pub after_stretches : Row → List ℕ → ℕ → Stretch
after_stretches row ds n = counted row fresh_stretch (take (n * row.digits) ds)
