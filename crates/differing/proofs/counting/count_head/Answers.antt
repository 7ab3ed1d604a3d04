-- `count_head`: the first set's head, or a later one's.
use Rattle.differing.proofs.SumsByKind.{first-place, first-end}
use Rattle.differing.proofs.counting.count_head.Goals as goal

pub count_first-requires : goal.count_first-requires
count_first-requires c =
    let b = c.requires in
    (b.0, b.1, first-place _ _ _ _ _ _ c.if-s-eq0.true b.3)

pub returns-then-s-eq0 : goal.returns-then-s-eq0
returns-then-s-eq0 c = first-end _ _ _ _ _ _ c.if-s-eq0.true c.count_first.ensures
