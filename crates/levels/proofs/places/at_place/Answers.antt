-- `at_place` is `pos_of` in a line of one frame: a place of a frame has no frame before it.
use native.Mathlib.Omega.{arith}
use native.Mathlib.Nat.{div-eq_of_lt, mod-eq_of_lt}
use Rattle.levels.specs.Places.{pos_of}
use Rattle.levels.proofs.places.at_place.Goals as goal

pub nonzero_div-result : goal.nonzero_div-result
nonzero_div-result c = omega arith

pub nonzero_rem-result : goal.nonzero_rem-result
nonzero_rem-result c = omega arith

pub returns : goal.returns
unfolding pos_of
returns c = rw (div-eq_of_lt c.requires.1, mod-eq_of_lt c.requires.1)
