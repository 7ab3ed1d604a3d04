-- One digit of a byte changed, for the writer of digits.
use Rattle.std.specs.Prelude.{ℕ, ◌+◌, ◌*◌, ◌/◌, ◌%◌, ◌^◌}

-- the byte b with d as the digit that is worth 2 to the k: the digits above it, d, the digits below it
unfoldable pub changed : ℕ → ℕ → ℕ → ℕ
changed b k d = (b / 2 ^ k / 2 * 2 + d) * 2 ^ k + b % 2 ^ k
