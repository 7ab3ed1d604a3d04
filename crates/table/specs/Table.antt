-- The level table of document 01, "Digits and bytes", and of document 02, request 10, with the limit of its request 4. Every crate that goes by a level reads it
-- here; what the rows share is levels/specs/Table.antt.
use Rattle.std.specs.Prelude.{cond, ℕ, eqb, Option, Some, None}
use Rattle.table.specs.declared.Row.{Row}

-- |                                      | level 2    | level 3    | level 4      | level 12 | level 14   |
-- | frame digits N                       | 848        | 1536       | 2928         | 1056     | 2176       |
-- | frame bytes                          | 106        | 192        | 366          | 132      | 272        |
-- | sets, digits in a set                | 4, 212     | 4, 384     | 6, 488       | 4, 264   | 4, 544     |
-- | alignment word, L digits             | 1111010000 | 1111010000 | 111110100000 | 11100110 | 1111010000 |
-- | remote alarm place                   | 10         | 10         | 12           | none     | none       |
-- | national places                      | 11         | 11         | 13, 14, 15   | none     | none       |
-- | first tributary place                | 12         | 12         | 16           | 8        | 12         |
-- |   of a set between, of the last set  | 4, 8       | 4, 8       | 4, 8         | 8, 12    | 4, 12      |
-- | control digits in a group            | 3          | 3          | 5            | 3        | 3          |
-- | digits per tributary n, none stuffed | 206        | 378        | 723          | 256      | 537        |
-- | room per tributary, in digits        | 206        | 378        | 723          | 257      | 538        |
-- | zeros that are few in N digits       | 4          | 4          | 5            | 2        | 4          |
abbrev pub row2 : Row
row2 =
    record
    { digits = 848; bytes = 106; sets = 4; set = 212; word = 0b1111010000; len = 10; alarm = 10; alarms = 1; national = 11; nationals = 1; first = 12; middle = 4; last = 8; control = 3; n = 206; room = 206; limit = 4 }

abbrev pub row3 : Row
row3 =
    record
    { digits = 1536; bytes = 192; sets = 4; set = 384; word = 0b1111010000; len = 10; alarm = 10; alarms = 1; national = 11; nationals = 1; first = 12; middle = 4; last = 8; control = 3; n = 378; room = 378; limit = 4 }

abbrev pub row4 : Row
row4 =
    record
    { digits = 2928; bytes = 366; sets = 6; set = 488; word = 0b111110100000; len = 12; alarm = 12; alarms = 1; national = 13; nationals = 3; first = 16; middle = 4; last = 8; control = 5; n = 723; room = 723; limit = 5 }

-- a level without alarm and national places has their numbers where the word ends, and none of them
abbrev pub row12 : Row
row12 =
    record
    { digits = 1056; bytes = 132; sets = 4; set = 264; word = 0b11100110; len = 8; alarm = 8; alarms = 0; national = 8; nationals = 0; first = 8; middle = 8; last = 12; control = 3; n = 256; room = 257; limit = 2 }

abbrev pub row14 : Row
row14 =
    record
    { digits = 2176; bytes = 272; sets = 4; set = 544; word = 0b1111010000; len = 10; alarm = 10; alarms = 0; national = 10; nationals = 0; first = 12; middle = 4; last = 12; control = 3; n = 537; room = 538; limit = 4 }

-- the row of a level; every number but 2, 3, 4, 12 and 14 is no level
unfoldable pub level_of : ℕ → Option Row
level_of level =
    cond (eqb level 2) (Some row2)
    (cond (eqb level 3) (Some row3)
    (cond (eqb level 4) (Some row4) (cond (eqb level 12) (Some row12) (cond (eqb level 14) (Some row14) None))))
