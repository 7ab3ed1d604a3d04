-- `later_column`: the places so far, all of one kind (Placing).
use Rattle.levels.specs.Order.{acts_by}
use Rattle.heads.specs.Columns.{PlacedTo}
use Rattle.heads.proofs.later_column.Given as goal

abbrev pub invariant-loop-j : goal.invariant-loop-j
invariant-loop-j l = PlacedTo l.row l.note (acts_by l.row l.preceding l.note) l.set l.r l.buffer l.initial.next l.j l.word l.next
