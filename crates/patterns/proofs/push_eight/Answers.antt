-- `push_eight`: the oldest eight digits fall out.
use mathlib.Core.Path.{refl}
use native.Mathlib.Omega.{arith}
use Rattle.patterns.proofs.Eights.{window-eight}
use Rattle.patterns.proofs.push_eight.Goals as goal

pub returns : goal.returns
returns c =
    let a = c.args in
    (window-eight a.pattern a.window c.eight_of.result _ c.requires.0 c.requires.1 c.eight_of.ensures.0 refl, omega arith)
