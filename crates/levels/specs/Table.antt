-- What the rows of the level table (table/specs/Table.antt) share.
use Rattle.std.specs.Prelude.{◌≡◌, ◌≢◌, ◌+◌, ◌*◌, ◌-◌, ◌/◌, ◌%◌, ◌^◌, ◌≤◌, ◌<◌}
use Rattle.digits.specs.Digits.{written, zeros_in}
use Rattle.table.specs.declared.Row.{Row}

-- What all rows share, each fact by its name. Everything above the table is proved from these, once for all levels.
pub record Shared (row : Row) : Type 0 where
  -- the frame is its sets, and whole bytes
  pub whole : row.digits ≡ row.sets * row.set
  pub packed : row.digits ≡ 8 * row.bytes
  -- there is a set after the first, and each set after the first has a control digit of each tributary
  pub later_set : 2 ≤ row.sets
  pub group : row.control + 1 ≡ row.sets
  -- a group has an odd number of digits, so that a vote has a majority
  pub odd : row.control % 2 ≡ 1
  -- each set, and each set's tributary digits, begin anew with tributary 1; a set has room for every head
  pub set_fours : row.set % 4 ≡ 0
  pub first_fours : row.first % 4 ≡ 0
  pub middle_fours : row.middle % 4 ≡ 0
  pub last_fours : row.last % 4 ≡ 0
  pub room : row.first + 8 ≤ row.set
  pub last_room : row.last ≤ row.set
  -- the head of the first set is the word, the remote alarm digit and up to three national digits, where there are any, then service digits
  -- that no note has
  pub alarm_next : row.alarm ≡ row.len
  pub national_next : row.national ≡ row.alarm + row.alarms
  pub few_alarm : row.alarms ≤ 1
  pub few_national : row.nationals ≤ 3 * row.alarms
  pub first_next : row.national + row.nationals ≤ row.first
  -- a word of ten digits has tributary digits from place 12 on, one of twelve from 16; the only other word has eight, and 8
  pub ten : row.len ≡ 10 → row.first ≡ 12
  pub twelve : row.len ≡ 12 → row.first ≡ 16
  pub eight : row.len ≢ 10 → row.len ≢ 12 → (row.len ≡ 8) × (row.first ≡ 8)
  -- the head of a set between is the control digits, and four service digits or none
  pub middle_least : 4 ≤ row.middle
  pub middle_most : row.middle ≤ 8
  -- that of the last set the control digits, a negative place for each tributary or none, and a positive place for each
  pub last_least : 8 ≤ row.last
  pub last_most : row.last ≤ 12
  -- the word has L digits, more than one
  pub word_some : 2 ≤ row.len
  pub word_fits : row.word < 2 ^ row.len
  -- and more zeros than are few, so that frames are no alarm indication, whatever stands between the words
  pub limit_word : row.limit < zeros_in (written row.len row.word)
  -- the digits per tributary: a column of four places for each, less the heads; the positive place carries
  pub counted : row.n + row.first / 4 + (row.sets - 2) * (row.middle / 4) + row.last / 4 ≡ row.digits / 4 + 1
  -- there is room for them, and for one more where there is a negative place
  pub most : row.room + 2 ≡ row.n + row.last / 4
  -- the largest row
  pub short : row.digits ≤ 2928
  pub few_sets : row.sets ≤ 6
  pub word_short : row.len ≤ 12
