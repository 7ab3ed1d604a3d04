-- `fed_by` is `fed_by`: refused, or fed.
use native.Mathlib.Omega.{arith}
use Rattle.std.proofs.lemmas.Grind.{common_steps}
use Rattle.std.proofs.lemmas.Bool.Decides.{nat_tests}
use Rattle.receiver.specs.Numbers.{fed_by}
use Rattle.receiver.proofs.numbers.fed_by.Goals as goal

pub returns-then-alarm-gt1 : goal.returns-then-alarm-gt1
unfolding fed_by
returns-then-alarm-gt1 c = grind (arith, common_steps, nat_tests)

pub returns-else-alarm-gt1 : goal.returns-else-alarm-gt1
unfolding fed_by
returns-else-alarm-gt1 c = grind (arith, common_steps, nat_tests)
