-- `zeros_by_byte` meets its contract: a byte has eight digits, and those that are not ones are zeros.
use mathlib.Core.Path.{◌≡◌}
use Prim.Native.Nat.{◌+◌, ◌*◌}
use Rattle.digits.specs.Digits.{between, zeros_in}
use Rattle.digits.proofs.zeros.zeros_by_byte.Given as goal

abbrev pub invariant-loop-byte : goal.invariant-loop-byte
invariant-loop-byte l = l.ones + zeros_in (between l.s (8 * l.from) (8 * (l.from + l.byte-index))) ≡ 8 * l.byte-index
