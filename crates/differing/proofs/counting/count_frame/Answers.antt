-- `count_frame`: set after set.
use native.Mathlib.Omega.{arith}
use Rattle.differing.proofs.SumsByKind.{first-set, next-set, last_set}
use Rattle.differing.proofs.counting.count_frame.Goals as goal

pub loop-s-init : goal.loop-s-init
loop-s-init c = first-set _ _ _ _ _ c.requires.2

pub loop-s-preserved : goal.loop-s-preserved
loop-s-preserved c = next-set _ _ _ _ c.loop-s.s _ c.count_run.ensures

pub returns : goal.returns
returns c = last_set _ _ _ c.requires.0 _ c.loop-s.s _ (omega arith) c.loop-s.invariant
