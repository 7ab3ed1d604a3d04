-- `refusal_of` is `refusal_of`. The code subtracts, so that no sum wraps.
use native.Mathlib.Omega.{arith}
use Rattle.std.proofs.lemmas.Grind.{common_steps}
use Rattle.std.proofs.lemmas.Bool.Decides.{nat_tests}
use Rattle.receiver.specs.Feed.{refusal_of}
use Rattle.receiver.proofs.refusal_of.Goals as goal
use Rattle.receiver.proofs.refusal_of.Goals.{then-is_invalid, else-is_invalid, then-bytes-first, else-bytes-first}

pub returns-then-is_uncounted : goal.returns-then-is_uncounted
unfolding refusal_of
returns-then-is_uncounted c =
    elim c.if-is_invalid.branch [
      | then-is_invalid w ↦ grind (arith, common_steps, nat_tests)
      | else-is_invalid w ↦ grind (arith, common_steps, nat_tests)
    ]

pub returns-then-bytes-gt65536 : goal.returns-then-bytes-gt65536
unfolding refusal_of
returns-then-bytes-gt65536 c = grind (arith, common_steps, nat_tests)

pub returns-then-bytes-first-2 : goal.returns-then-bytes-first-2
unfolding refusal_of
returns-then-bytes-first-2 c =
    elim c.if-bytes-first.branch [
      | then-bytes-first w ↦ grind (arith, common_steps, nat_tests)
      | else-bytes-first w ↦ grind (arith, common_steps, nat_tests)
    ]

pub returns-else-bytes-first-2 : goal.returns-else-bytes-first-2
unfolding refusal_of
returns-else-bytes-first-2 c = grind (arith, common_steps, nat_tests)
