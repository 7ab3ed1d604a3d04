-- The record of a state: three of its numbers are as their calls give them.
use Rattle.records.proofs.record.record_of.Goals as goal

pub returns : goal.returns
returns c = rw (c.mode_number.ensures, c.as_number.ensures, c.as_number-2.ensures)
