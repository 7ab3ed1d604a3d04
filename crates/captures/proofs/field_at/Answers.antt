-- `field_at` is `field_at`, by the tests of its four conditions.
use native.Mathlib.Omega.{arith}
use Rattle.std.proofs.lemmas.Bool.Decides.{nat_tests}
use Rattle.captures.specs.Captures.{field_at}
use Rattle.captures.proofs.field_at.Goals as goal

pub returns-then-bytes-most : goal.returns-then-bytes-most
unfolding field_at
returns-then-bytes-most c = grind (arith, nat_tests)

pub returns-else-bytes-most : goal.returns-else-bytes-most
unfolding field_at
returns-else-bytes-most c = grind (arith, nat_tests)
