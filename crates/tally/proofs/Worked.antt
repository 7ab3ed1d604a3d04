-- A place of each kind and tributary, and which sum it counts in: level 2, the national places of level 4, and what levels 12 and 14 add.
use mathlib.Core.Path.{◌≡◌, refl}
use Prim.Native.Nat.{◌+◌}
use Rattle.table.specs.Table.{row2, row4, row12, row14}
use Rattle.levels.specs.Places.{kind_of, first_set, middle_set, last_set, pos_of}
use Rattle.tally.specs.Tally.{number_at}

-- word, remote alarm, national; control, justification, ordinary of tributary 1, of 2, of 3, of 4
pub worked-2 : (number_at row2 9 ≡ 0) × (number_at row2 10 ≡ 1) × (number_at row2 11 ≡ 2)
    × (number_at row2 212 ≡ 3) × (number_at row2 640 ≡ 4) × (number_at row2 12 ≡ 5)
    × (number_at row2 425 ≡ 6) × (number_at row2 641 ≡ 7) × (number_at row2 13 ≡ 8)
    × (number_at row2 638 ≡ 9) × (number_at row2 642 ≡ 10) × (number_at row2 646 ≡ 11)
    × (number_at row2 639 ≡ 12) × (number_at row2 643 ≡ 13) × (number_at row2 847 ≡ 14)
unfolding number_at kind_of first_set middle_set last_set pos_of
worked-2 = (refl, refl, refl, refl, refl, refl, refl, refl, refl, refl, refl, refl, refl, refl, refl)

-- in the next frame the same places begin anew
pub worked-4 : (number_at row4 (2928 + 12) ≡ 1) × (number_at row4 (2928 + 13) ≡ 2) × (number_at row4 (2928 + 14) ≡ 2) × (number_at row4 (2928 + 15) ≡ 2)
    × (number_at row4 (2928 + 16) ≡ 5)
unfolding number_at kind_of first_set middle_set last_set pos_of
worked-4 = (refl, refl, refl, refl, refl)

-- service places that no note has are national: level 12 has them in groups II and III, level 14 in group I
pub worked-service : (number_at row12 (264 + 4) ≡ 2) × (number_at row12 (528 + 7) ≡ 2) × (number_at row12 8 ≡ 5) × (number_at row14 10 ≡ 2) × (number_at row14 11 ≡ 2)
    × (number_at row14 12 ≡ 5)
unfolding number_at kind_of first_set middle_set last_set pos_of
worked-service = (refl, refl, refl, refl, refl, refl)

-- negative and positive places are justification, of tributary 1 and of 4
pub worked-signs : (number_at row12 (792 + 4) ≡ 4) × (number_at row12 (792 + 7) ≡ 13) × (number_at row12 (792 + 8) ≡ 4) × (number_at row12 (792 + 11) ≡ 13)
    × (number_at row12 (792 + 12) ≡ 5) × (number_at row14 (1632 + 4) ≡ 4) × (number_at row14 (1632 + 11) ≡ 13)
unfolding number_at kind_of first_set middle_set last_set pos_of
worked-signs = (refl, refl, refl, refl, refl, refl, refl)
