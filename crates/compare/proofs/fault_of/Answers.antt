-- `fault_of` is `fault_of`.
use native.Mathlib.Omega.{arith}
use Rattle.std.proofs.lemmas.Grind.{common_steps}
use Rattle.std.proofs.lemmas.Bool.Decides.{nat_tests}
use Rattle.compare.specs.Compare.{fault_of}
use Rattle.compare.proofs.fault_of.Goals as goal

pub returns-then-one-ne0 : goal.returns-then-one-ne0
unfolding fault_of
returns-then-one-ne0 c = grind (arith, common_steps, nat_tests)

pub returns-then-other-ne0 : goal.returns-then-other-ne0
unfolding fault_of
returns-then-other-ne0 c = grind (arith, common_steps, nat_tests)

pub returns-then-one-other : goal.returns-then-one-other
unfolding fault_of
returns-then-one-other c = grind (arith, common_steps, nat_tests)

pub returns-then-one-other-2 : goal.returns-then-one-other-2
unfolding fault_of
returns-then-one-other-2 c = grind (arith, common_steps, nat_tests)

pub returns-else-one-other-2 : goal.returns-else-one-other-2
unfolding fault_of
returns-else-one-other-2 c = grind (arith, common_steps, nat_tests)
