-- What differs between two lines of one length: the fifteen sums by kind of place (crate tally), all differing digits, and the frames and places of the first
-- 64, for any bytes. Request 6 of document 02. Crate compare says the same of two captures, and of lines that may not fit each other.
use Rattle.std.specs.Prelude.{Bool, cond, List, [], ◌∷◌, ◌++◌, ℕ, zero, suc, ◌-◌, ◌*◌, ◌/◌, ◌%◌, length, take, replicate}
use Rattle.table.specs.declared.Row.{Row}
use Rattle.tally.specs.Tally.{all_of, sums_of, differ_at}
use Rattle.differing.specs.declared.Compared.{Compared}

-- the places among the first n at which the test is true, in order
unfoldable pub places_to : (ℕ → Bool) → ℕ → List ℕ
places_to test zero = []
places_to test (suc n) = places_to test n ++ cond (test n) (n ∷ []) []

-- "the frame and place" of each, place after place: frames from 0, places in their frame
unfoldable pub pairs_of : Row → List ℕ → List ℕ
pairs_of row [] = []
pairs_of row (p ∷ ps) = p / row.digits ∷ p % row.digits ∷ pairs_of row ps

-- "of the first 64, in order", and zeros after them
unfoldable pub list_of : Row → List ℕ → List ℕ
list_of row places = pairs_of row (take 64 places) ++ replicate (128 - 2 * length (take 64 places)) 0

-- two lines of one length: the fifteen sums over their places, all differing digits, and how many of them are listed
unfoldable pub counted_on : Row → List ℕ → List ℕ → Compared
counted_on row one other =
    record {
      refusal = 0;
      file = 0;
      byte = 0;
      sums = sums_of row (differ_at one other) (8 * length one);
      all = all_of (differ_at one other) (8 * length one);
      listed = length (take 64 (places_to (differ_at one other) (8 * length one)));
    }

abbrev pub listed_on : Row → List ℕ → List ℕ → List ℕ
listed_on row one other = list_of row (places_to (differ_at one other) (8 * length one))
