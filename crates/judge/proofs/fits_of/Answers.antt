-- `fits_of` is `fitting`.
use native.Mathlib.Omega.{arith}
use Rattle.judge.specs.Verdict.{fitting}
use Rattle.judge.proofs.fits_of.Goals as goal

pub overflow_add-result-2 : goal.overflow_add-result-2
overflow_add-result-2 c = omega (arith, c.worth.ensures.1, c.worth-2.ensures.1, c.worth-3.ensures.1)

pub returns : goal.returns
unfolding fitting
returns c = omega (arith, c.worth.ensures.0, c.worth-2.ensures.0, c.worth-3.ensures.0)
