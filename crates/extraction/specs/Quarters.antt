-- Extraction by notes and the vote before them: the digits of each tributary, in the order of their places, into its quarter. It looks at no control digit.
use Rattle.std.specs.Prelude.{List, ◌++◌, map, ℕ, ◌*◌, ◌-◌, length, get_or, replicate}
use Rattle.digits.specs.Digits.{digits_of, bytes_of}
use Rattle.table.specs.declared.Row.{Row}
use Rattle.levels.specs.Order.{actions, places_of}

-- the digits of tributary j (from 0) that the first x columns of a line with these digits carry, by the notes
unfoldable pub taken_to : Row → ℕ → List ℕ → List ℕ → ℕ → ℕ → List ℕ
taken_to row earlier notes ds j x = map (λ (p : ℕ). get_or ds p 0) (places_of row (actions row earlier notes j) j x)

-- a quarter of q bytes: the tributary's digits are "the first so many of its quarter", "Further output digits of the quarter are zero"
unfoldable pub quarter_from : Row → ℕ → List ℕ → List ℕ → ℕ → ℕ → List ℕ
quarter_from row earlier notes line q j =
    bytes_of q
    (taken_to row earlier notes (digits_of line) j (2 * length line)
    ++ replicate (8 * q - length (taken_to row earlier notes (digits_of line) j (2 * length line))) 0)

-- the four quarters, one after the other
unfoldable pub quarters_from : Row → ℕ → List ℕ → List ℕ → ℕ → List ℕ
quarters_from row earlier notes line q =
    quarter_from row earlier notes line q 0
    ++ (quarter_from row earlier notes line q 1 ++ (quarter_from row earlier notes line q 2 ++ quarter_from row earlier notes line q 3))
