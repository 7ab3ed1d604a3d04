-- Sixteen columns of four digits as a word, and the same digits as four rows of sixteen.
use Rattle.std.specs.Prelude.{◌≡◌, ℕ, ◌+◌, ◌*◌, ◌/◌, ◌%◌, ◌^◌, ◌<◌}
use Rattle.std.specs.Int.Bits.{bit_and, bit_xor}

-- where a digit under the mask and the digit so many places before it differ
abbrev pub differing : ℕ → ℕ → ℕ → ℕ
differing word by mask = bit_and (bit_xor (word / 2 ^ by) word) mask

-- the two exchanged, in a word of 64 digits
abbrev pub exchanged : ℕ → ℕ → ℕ → ℕ
exchanged word by mask = bit_xor (bit_xor word (differing word by mask)) (differing word by mask * 2 ^ by % 2 ^ 64)

-- digit b of row j is digit j of column b; rows, columns and digits are counted from the last one, which is worth least
abbrev pub TurnedOver : ℕ → ℕ → Type 0
TurnedOver rows columns = (j b : ℕ) → j < 4 → b < 16 → rows / 2 ^ (16 * j + b) % 2 ≡ columns / 2 ^ (4 * b + j) % 2
