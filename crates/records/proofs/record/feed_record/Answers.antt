-- The record kept and the answer are those of the receiver that the record keeps.
use Rattle.records.proofs.record.feed_record.Goals as goal

pub returns : goal.returns
returns c =
    rw (← c.state_of.ensures, ← c.fed_by-fed.ensures) (c.kept_after.ensures, c.fed_numbers.ensures)
