-- `changes_four`: each tributary's own.
use Rattle.judge.proofs.changes.changes_four.Goals as goal

pub returns : goal.returns
returns c = rw (c.changes_of.ensures, c.changes_of-2.ensures, c.changes_of-3.ensures, c.changes_of-4.ensures)
