-- `service_digit` is `service_digit`.
use borrow.Author.Tests.{lt-ltb, le-ltb}
use Rattle.levels.proofs.Ways.{noted-third}
use native.Mathlib.Omega.{arith}
use Rattle.levels.proofs.places.service_digit.Goals as goal

pub returns-then-row-k : goal.returns-then-row-k
returns-then-row-k c = rw (le-ltb _ _ c.if-row-k.true)

pub returns-in-0 : goal.returns-in-0
returns-in-0 c = rw (lt-ltb _ _ c.if-row-k.false, c.in-0.is)

pub returns-in-1 : goal.returns-in-1
returns-in-1 c = rw (lt-ltb _ _ c.if-row-k.false, c.in-1.is)

pub returns-in-2 : goal.returns-in-2
returns-in-2 c = rw (lt-ltb _ _ c.if-row-k.false, c.in-2.is)

pub returns-in_default : goal.returns-in_default
returns-in_default c = rw (lt-ltb _ _ c.if-row-k.false, noted-third c.args.k (omega arith))
