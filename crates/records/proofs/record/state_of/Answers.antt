-- The state that a record keeps: its mode is as `mode_of` gives it.
use Rattle.records.proofs.record.state_of.Goals as goal

pub returns : goal.returns
returns c = rw c.mode_of.ensures
