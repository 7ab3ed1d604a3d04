-- `fits`: `lines_refusal` is no refusal.
use native.Mathlib.Omega.{arith}
use Rattle.std.proofs.lemmas.Grind.{common_steps}
use Rattle.std.proofs.lemmas.Bool.Decides.{nat_tests}
use Rattle.compare.specs.Lines.{lines_refusal}
use Rattle.compare.proofs.lines.fits.Goals as goal

pub returns-then-not-bad_line : goal.returns-then-not-bad_line
unfolding lines_refusal
returns-then-not-bad_line c = grind (arith, common_steps, nat_tests)

pub returns-else-not-bad_line : goal.returns-else-not-bad_line
unfolding lines_refusal
returns-else-not-bad_line c = grind (arith, common_steps, nat_tests)
