-- `push`: the oldest digit falls out.
use mathlib.Core.Path.{refl}
use Rattle.patterns.specs.Patterns.{pushed}
use native.Mathlib.Omega.{arith}
use Rattle.patterns.proofs.push.Goals as goal

pub returns : goal.returns
unfolding pushed
returns c = (refl, omega arith)
