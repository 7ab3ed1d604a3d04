-- `put_changes`: four stores.
use native.Mathlib.Omega.{arith}
use Rattle.verdict_heads.proofs.put_changes.Goals as goal

pub changes_of-requires : goal.changes_of-requires
changes_of-requires c = (omega arith, c.requires.1)

pub overflow_add-a : goal.overflow_add-a
overflow_add-a c = omega (arith, c.requires.2 0 (omega arith), c.changes_of.ensures.1)

pub changes_of-requires-2 : goal.changes_of-requires-2
changes_of-requires-2 c = (omega arith, c.requires.1)

pub overflow_add-b : goal.overflow_add-b
overflow_add-b c = omega (arith, c.requires.2 1 (omega arith), c.changes_of-2.ensures.1)

pub changes_of-requires-3 : goal.changes_of-requires-3
changes_of-requires-3 c = (omega arith, c.requires.1)

pub overflow_add-c : goal.overflow_add-c
overflow_add-c c = omega (arith, c.requires.2 2 (omega arith), c.changes_of-3.ensures.1)

pub changes_of-requires-4 : goal.changes_of-requires-4
changes_of-requires-4 c = (omega arith, c.requires.1)

pub overflow_add-d : goal.overflow_add-d
overflow_add-d c = omega (arith, c.requires.2 3 (omega arith), c.changes_of-4.ensures.1)

pub returns : goal.returns
returns c = rw (c.changes_of.ensures.0, c.changes_of-2.ensures.0, c.changes_of-3.ensures.0, c.changes_of-4.ensures.0)
