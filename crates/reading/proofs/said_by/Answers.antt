-- `said_by` sums up what four counts decide and the service digits, and hands on how many digits dissented. No sum wraps, since each part is a
-- digit, or below 16.
use mathlib.Core.Path.{refl}
use Rattle.reading.proofs.said_by.Goals as goal

pub returns : goal.returns
returns c =
    rw (← c.decide-d.ensures, ← c.decide-c.ensures, ← c.decide-b.ensures, ← c.decide-a.ensures)
    (rw (c.digit_of-4.ensures.0, c.digit_of-3.ensures.0, c.digit_of-2.ensures.0, c.digit_of.ensures.0) refl)
