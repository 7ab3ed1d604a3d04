-- Document 01's sentences on what a place is, and those of document 02, request 10, one by one, each as a statement about `kind_at`.
-- proofs/Sentences.antt proves them for every row of the table. At the end the two frames of request 10, group by group and every place of them.
use Rattle.std.specs.Prelude.{◌≡◌, ◌≢◌, ℕ, ◌+◌, ◌*◌, ◌-◌, ◌%◌, ◌≤◌, ◌<◌}
use Rattle.table.specs.declared.Row.{Row}
use Rattle.table.specs.Table.{row12, row14}
use Rattle.levels.specs.declared.places.ServiceDigit.TheVariants.{RemoteAlarm, Fixed}
use Rattle.levels.specs.declared.places.Sign.{Sign}
use Rattle.levels.specs.declared.places.Sign.TheVariants.{Negative, Positive}
use Rattle.levels.specs.declared.places.Kind.{Kind}
use Rattle.levels.specs.declared.places.Kind.TheVariants.{Word, Service, Control, Justification, Tributary}
use Rattle.levels.specs.Places.{kind_at, noted_digit}

pub record Sentences (row : Row) : Type 0 where
  -- "alignment word, L digits"
  pub the_word : (p : ℕ) → p < row.len → kind_at row p ≡ Word
  -- "remote alarm place", where the level has one
  pub the_alarm : 0 < row.alarms → kind_at row row.alarm ≡ Service RemoteAlarm
  -- "national places": in a note they come after the remote alarm digit
  pub the_nationals : (k : ℕ) → k < row.nationals → kind_at row (row.national + k) ≡ Service (noted_digit (1 + k))
  -- request 10: "tributary digits from 13 in I": the places from the word's end, or the national digits', to there are service places
  pub the_services : (p : ℕ) → row.national + row.nationals ≤ p → p < row.first → kind_at row p ≡ Service Fixed
  -- "In every set after the first, the first four digits are control digits, for tributaries 1 to 4 in that order."
  pub the_controls : (s t : ℕ) → 0 < s → s < row.sets → t < 4
      → (kind_at row (s * row.set + t) ≡ Control) × ((s * row.set + t) % 4 ≡ t)
  -- request 10: "tributary digits from 9 in groups I to III": the places of a set between from its control digits to there are service places
  pub the_services_between : (s r : ℕ) → 0 < s → s + 1 < row.sets → 4 ≤ r → r < row.middle → kind_at row (s * row.set + r) ≡ Service Fixed
  -- request 10: "In group IV of both: negative places 5 to 8, positive places 9 to 12": counted from 0 they are 4 to 7 and 8 to 11
  pub the_negatives : (s t : ℕ) → s + 1 ≡ row.sets → 8 < row.last → t < 4
      → (kind_at row (s * row.set + (4 + t)) ≡ Justification Negative) × ((s * row.set + (4 + t)) % 4 ≡ t)
  -- "In the last set the next four are the justification digits, again 1 to 4": next to the control digits, or to the negative places
  pub the_justifications : (s t : ℕ) → s + 1 ≡ row.sets → t < 4
      → (kind_at row (s * row.set + (row.last - 4 + t)) ≡ Justification Positive) × ((s * row.set + (row.last - 4 + t)) % 4 ≡ t)
  -- "All other digits from the first tributary place on are tributary digits, in turn 1, 2, 3, 4,"
  pub the_others : (p : ℕ) → row.first ≤ p → p < row.digits → kind_at row p ≢ Control → ((sign : Sign) → kind_at row p ≢ Justification sign)
      → kind_at row p ≢ Service Fixed → kind_at row p ≡ Tributary
  -- "starting anew with 1 after each set's head": after the first set's, after that of a set between, after the last set's
  pub anew : (s : ℕ) → (row.first % 4 ≡ 0) × ((s * row.set + row.middle) % 4 ≡ 0) × ((s * row.set + row.last) % 4 ≡ 0)

-- Request 10 counts groups and places from 1: these places of a group are of one kind
abbrev pub Are : Row → ℕ → ℕ → ℕ → Kind → Type 0
Are row group from to kind = (p : ℕ) → from ≤ p → p ≤ to → kind_at row ((group - 1) * row.set + (p - 1)) ≡ kind

-- "In group IV of both: negative places 5 to 8, positive places 9 to 12, then tributary digits"; "control at 1 to 4 of all but the first"
abbrev pub GroupIV : Row → Type 0
GroupIV row = Are row 4 1 4 Control × Are row 4 5 8 (Justification Negative) × Are row 4 9 12 (Justification Positive) × Are row 4 13 row.set Tributary

-- "Level 12: word 11100110, tributary digits from 9 in groups I to III", and between control and tributary digits service places
pub record Level12 : Type 0 where
  pub one : Are row12 1 1 8 Word × Are row12 1 9 264 Tributary
  pub two : Are row12 2 1 4 Control × Are row12 2 5 8 (Service Fixed) × Are row12 2 9 264 Tributary
  pub three : Are row12 3 1 4 Control × Are row12 3 5 8 (Service Fixed) × Are row12 3 9 264 Tributary
  pub four : GroupIV row12

-- "Level 14: word 1111010000, tributary digits from 13 in I, from 5 in II and III", and between word and tributary digits service places
pub record Level14 : Type 0 where
  pub one : Are row14 1 1 10 Word × Are row14 1 11 12 (Service Fixed) × Are row14 1 13 544 Tributary
  pub two : Are row14 2 1 4 Control × Are row14 2 5 544 Tributary
  pub three : Are row14 3 1 4 Control × Are row14 3 5 544 Tributary
  pub four : GroupIV row14
