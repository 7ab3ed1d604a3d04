-- `count_kind`: the ones of the differing digits.
use native.Mathlib.Omega.{arith}
use mathlib.Core.Path.{refl, sym}
use Rattle.digits.specs.Sums.{sum_to}
use Rattle.masks.proofs.Differing.{ones-few}
use Rattle.masks.proofs.Added.{added_none}
use Rattle.masks.proofs.count_kind.Goals as goal

pub returns-then-n-eq0 : goal.returns-then-n-eq0
unfolding sum_to
returns-then-n-eq0 c = rw c.if-n-eq0.true (sym (added_none _ _))

pub few-x-requires : goal.few-x-requires
few-x-requires c = (c.requires.0, c.requires.1, omega (arith, c.if-n-eq0.false), c.requires.2)

pub overflow_cast-sums : goal.overflow_cast-sums
overflow_cast-sums c = omega (arith, (ones-few _ _ _ _ _ c.few-x.ensures).1, c.requires.2)

pub overflow_add-sums : goal.overflow_add-sums
overflow_add-sums c = omega (arith, (ones-few _ _ _ _ _ c.few-x.ensures).1, c.requires.2, c.requires.4 c.args.m)

pub returns : goal.returns
returns c = rw (ones-few _ _ _ _ _ c.few-x.ensures).0 refl
