-- `is_ready` is `ready_of`.
use Rattle.std.proofs.Common.{rules}
use Rattle.pieces.specs.Frame.{ready_of}
use Rattle.pieces.proofs.frame.is_ready.Goals as goal

pub returns-then-is_aligned : goal.returns-then-is_aligned
unfolding ready_of
returns-then-is_aligned c = search rules

pub returns-else-is_aligned : goal.returns-else-is_aligned
unfolding ready_of
returns-else-is_aligned c = search rules
