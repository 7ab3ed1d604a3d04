-- `mode_of` is `mode_of`.
use native.Mathlib.Omega.{arith}
use Rattle.std.proofs.Common.{rules}
use Rattle.std.proofs.lemmas.Grind.{common_steps}
use Rattle.std.proofs.lemmas.Bool.Decides.{nat_tests}
use Rattle.receiver.specs.Numbers.{mode_of}
use Rattle.receiver.proofs.numbers.mode_of.Goals as goal

pub returns-in-0 : goal.returns-in-0
unfolding mode_of
returns-in-0 c = search rules

pub returns-in-1 : goal.returns-in-1
unfolding mode_of
returns-in-1 c = search rules

pub returns-in-2 : goal.returns-in-2
unfolding mode_of
returns-in-2 c = search rules

pub returns-in-3-to-6 : goal.returns-in-3-to-6
unfolding mode_of
returns-in-3-to-6 c = grind (arith, common_steps, nat_tests)

pub returns-in_default : goal.returns-in_default
unfolding mode_of
returns-in_default c = grind (arith, common_steps, nat_tests)
