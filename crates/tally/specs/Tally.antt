-- One table of counts by kind and tributary, over the places of a line of whole frames. Request 6 of document 02: "alignment word, remote alarm,
-- national, then for each tributary its control, justification and ordinary digits", fifteen in this order. "Kinds go by the layout, not by any
-- decision": a place is looked at, and no digit. What is counted is a test of places, such as that two lines differ there.
use Rattle.std.specs.Prelude.{Bool, cond, not, ◌&&◌, List, ℕ, ◌+◌, ◌*◌, ◌%◌, eqb, get_or, set}
use Rattle.digits.specs.Digits.{digits_of, tab}
use Rattle.digits.specs.Sums.{sum_to}
use Rattle.table.specs.declared.Row.{Row}
use Rattle.levels.specs.declared.places.Kind.{Kind}
use Rattle.levels.specs.declared.places.Kind.TheVariants.{Word, Service, Control, Justification, Tributary}
use Rattle.levels.specs.declared.places.ServiceDigit.{ServiceDigit}
use Rattle.levels.specs.declared.places.ServiceDigit.TheVariants.{RemoteAlarm, FirstNational, SecondNational, ThirdNational, Fixed}
use Rattle.levels.specs.Places.{kind_at}

-- remote alarm is sum 1, national is sum 2; request 10: "request 6 counts service places as national"
abbrev pub service_number : ServiceDigit → ℕ
service_number RemoteAlarm = 1
service_number FirstNational = 2
service_number SecondNational = 2
service_number ThirdNational = 2
service_number Fixed = 2

-- which of the fifteen sums, from 0, a place of this kind counts in; tributary j is counted from 0 here
abbrev pub sum_number : Kind → ℕ → ℕ
sum_number Word j = 0
sum_number (Service s) j = service_number s
sum_number Control j = 3 + 3 * j
sum_number (Justification sign) j = 4 + 3 * j
sum_number Tributary j = 5 + 3 * j

-- which sum place p of a line counts in: by what the place is, and whose
unfoldable pub number_at : Row → ℕ → ℕ
number_at row p = sum_number (kind_at row p) (p % 4)

-- how many of the first n places the test is true of
abbrev pub all_of : (ℕ → Bool) → ℕ → ℕ
all_of test n = sum_to n (λ (p : ℕ). cond (test p) 1 0)

-- and how many of those count in sum k
abbrev pub sum_of : Row → (ℕ → Bool) → ℕ → ℕ → ℕ
sum_of row test n k = all_of (λ (p : ℕ). test p && eqb (number_at row p) k) n

-- the fifteen sums
unfoldable pub sums_of : Row → (ℕ → Bool) → ℕ → List ℕ
sums_of row test n = tab 15 0 (sum_of row test n)

-- one more in sum k
abbrev pub one_more : List ℕ → ℕ → List ℕ
one_more sums k = set sums k (get_or sums k 0 + 1)

-- two lines differ at place p
abbrev pub differ_at : List ℕ → List ℕ → ℕ → Bool
differ_at one other p = not (eqb (get_or (digits_of one) p 0) (get_or (digits_of other) p 0))
