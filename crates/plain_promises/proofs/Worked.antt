-- What the plain engine's definitions say of single frames at levels 12 and 14, by computation: numbers that a reader of request 10 can hold
-- them against, and by the theorem the quick engine's too.
use mathlib.Core.Path.{◌≡◌, refl}
use mathlib.Core.List.{[], ◌∷◌}
use Rattle.table.specs.Table.{row2, row4, row12, row14}
use Rattle.engine.specs.declared.frame.Place.TheVariants.{Alignment, Fixed, Control, Negative, Positive, Tributary}
use Rattle.engine.specs.Engine.{sum_over, place_in, carries_at, carries_for, count_to, digit_at, quarter_digit, sent_at, first_with, national_ones, refusal_with, refusal_on, sending_on}

-- level 12: the word, tributary digits from "9" on; in groups II and III control at "1 to 4", service at "5 to 8"; in group IV, which begins at
-- place 792, "negative places 5 to 8, positive places 9 to 12, then tributary digits"
places-12 : (place_in row12 7 ≡ Alignment) × (place_in row12 8 ≡ Tributary) × (place_in row12 267 ≡ Control) × (place_in row12 268 ≡ Fixed)
    × (place_in row12 271 ≡ Fixed) × (place_in row12 272 ≡ Tributary) × (place_in row12 795 ≡ Control) × (place_in row12 796 ≡ Negative)
    × (place_in row12 799 ≡ Negative) × (place_in row12 800 ≡ Positive) × (place_in row12 803 ≡ Positive) × (place_in row12 804 ≡ Tributary)
unfolding place_in
places-12 = (refl, refl, refl, refl, refl, refl, refl, refl, refl, refl, refl, refl)

-- level 14: service at "11" and "12" of group I, "tributary digits from 13 in I, from 5 in II and III"; group IV begins at place 1632
places-14 : (place_in row14 9 ≡ Alignment) × (place_in row14 10 ≡ Fixed) × (place_in row14 11 ≡ Fixed) × (place_in row14 12 ≡ Tributary)
    × (place_in row14 547 ≡ Control) × (place_in row14 548 ≡ Tributary) × (place_in row14 1635 ≡ Control) × (place_in row14 1636 ≡ Negative)
    × (place_in row14 1639 ≡ Negative) × (place_in row14 1640 ≡ Positive) × (place_in row14 1643 ≡ Positive) × (place_in row14 1644 ≡ Tributary)
unfolding place_in
places-14 = (refl, refl, refl, refl, refl, refl, refl, refl, refl, refl, refl, refl)

-- both votes 0: tributary 1's negative place has digit 192, its positive place digit 193, and the frame 257 digits
both-0 : (count_to row12 0 (0 ∷ []) 0 796 ≡ 192) × (count_to row12 0 (0 ∷ []) 0 800 ≡ 193) × (count_to row12 0 (0 ∷ []) 0 1056 ≡ 257)
unfolding count_to sum_over carries_for carries_at place_in
both-0 = (refl, refl, refl)

-- both 1: 255; the one 1 and the other 0: 256
both-1-or-neither : (count_to row12 1 (1 ∷ []) 0 1056 ≡ 255) × (count_to row12 1 (0 ∷ []) 0 1056 ≡ 256) × (count_to row12 0 (1 ∷ []) 0 1056 ≡ 256)
unfolding count_to sum_over carries_for carries_at place_in
both-1-or-neither = (refl, refl, refl)

-- a buffer of zeros: a negative place that carries is sent as its digit, 0, an unused one as 1, though the vote is 0; service places as 1
unused : (sent_at row12 0 (0 ∷ []) [] 796 ≡ 0) × (sent_at row12 1 (0 ∷ []) [] 796 ≡ 1) × (sent_at row12 1 (0 ∷ []) [] 792 ≡ 0) × (sent_at row12 0 (0 ∷ []) [] 268 ≡ 1)
unfolding sent_at count_to sum_over carries_for carries_at place_in quarter_digit digit_at
unused = (refl, refl, refl, refl)

-- one frame of level 12, an earlier vote of 16: 4 goes first where a quarter has 256 digits; then 5 naming frame 0, before a note with bit 4 in frame 1,
-- which an earlier vote of 15 leaves to be named. At level 2 the earlier vote is not looked at
refused : (refusal_on row12 16 132 (0 ∷ []) 128 ≡ refusal_with 4 0) × (refusal_on row12 16 132 (0 ∷ []) 132 ≡ refusal_with 5 0)
    × (refusal_on row12 16 264 (0 ∷ 16 ∷ []) 264 ≡ refusal_with 5 0) × (refusal_on row12 15 264 (0 ∷ 16 ∷ []) 264 ≡ refusal_with 5 1)
    × (refusal_on row2 16 106 (0 ∷ []) 104 ≡ refusal_with 0 0)
unfolding refusal_on first_with
refused = (refl, refl, refl, refl, refl)

-- multiplexing asks for the bits for national use, once 5 is asked of all notes: level 2, notes 00 40 hex are refused with 5 naming frame 1, not with 10
-- naming frame 0; notes 20 00 00 with 10 naming frame 1; with 20 alone it goes on. Level 4 asks for all three: 60 is refused, E0 is not. Level 12 asks for
-- none. No frame, no fault. Extraction by the note 00 goes on
national : (sending_on row2 0 212 (0 ∷ 64 ∷ []) 208 ≡ refusal_with 5 1) × (sending_on row2 0 318 (32 ∷ 0 ∷ 0 ∷ []) 312 ≡ refusal_with 10 1)
    × (sending_on row2 0 106 (32 ∷ []) 104 ≡ refusal_with 0 0) × (sending_on row4 0 366 (96 ∷ []) 364 ≡ refusal_with 10 0)
    × (sending_on row4 0 366 (224 ∷ []) 364 ≡ refusal_with 0 0) × (sending_on row12 0 132 (0 ∷ []) 132 ≡ refusal_with 0 0)
    × (sending_on row2 0 0 [] 0 ≡ refusal_with 0 0) × (refusal_on row2 0 106 (0 ∷ []) 104 ≡ refusal_with 0 0)
unfolding sending_on refusal_on first_with national_ones sum_over
national = (refl, refl, refl, refl, refl, refl, refl, refl)
