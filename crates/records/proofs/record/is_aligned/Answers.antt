-- The mode aligned has the numbers from 3 on.
use mathlib.Core.Path.{sym}
use Rattle.records.proofs.Modes.{aligned-from-3}
use Rattle.records.proofs.record.is_aligned.Goals as goal

pub returns : goal.returns
returns c = sym (aligned-from-3 _)
