-- The frame in hand. Document 01, "Finding frames in a stream": the array of 366 bytes changes only so; when it is handed
-- over. Told in digits: digit p of the array is digit p of the frame.
use Rattle.std.specs.Prelude.{Bool, cond, true, false, ◌&&◌, List, ◌++◌, ℕ, ◌+◌, ◌-◌, eqb, leb, length, set, replicate}
use Rattle.digits.specs.Digits.{digits_of, bytes_of, written}
use Rattle.table.specs.declared.Row.{Row}
use Rattle.modes.specs.declared.Mode.{Mode}
use Rattle.modes.specs.declared.Mode.TheVariants.{Hunting, OneFound, TwoFound, Aligned}
use Rattle.modes.specs.declared.Core.{Core}
use Rattle.modes.specs.Modes.{hunting}

-- the array that has these digits first and is zero after them
unfoldable pub holding : List ℕ → List ℕ
holding ds = bytes_of 366 (ds ++ replicate (2928 - length ds) 0)

-- "it is cleared and its first L digits are the last L received"
unfoldable pub begun : Row → ℕ → List ℕ
begun row w = holding (written row.len w)

-- "the digit is put at" place p
unfoldable pub put : List ℕ → ℕ → ℕ → List ℕ
put f p d = bytes_of (length f) (set (digits_of f) p d)

-- "The array changes only so: when the place becomes 0 outside hunting it is cleared and its first L digits are the last L
-- received; at places 1 to N−L the digit is put at L−1 plus the place." c is the core after the digit d.
unfoldable pub keep_of : Row → Core → ℕ → List ℕ → List ℕ
keep_of row c d f =
    cond (hunting c.mode) f
    (cond (eqb c.place 0) (begun row c.window)
    (cond (leb c.place (row.digits - row.len)) (put f (row.len - 1 + c.place) d) f))

abbrev pub aligned : Mode → Bool
aligned Hunting = false
aligned OneFound = false
aligned TwoFound = false
aligned (Aligned m) = true

-- "A frame is handed over at its last digit, place N−L, exactly if the mode is aligned there."
unfoldable pub ready_of : Row → Core → Bool
ready_of row c = aligned c.mode && eqb c.place (row.digits - row.len)
