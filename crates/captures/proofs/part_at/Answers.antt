-- `part_at` is `part_at`.
use Rattle.captures.proofs.part_at.Goals as goal

pub returns : goal.returns
returns c = rw c.length_at.ensures.0
