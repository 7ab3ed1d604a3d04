-- `made_of`: the stages of the one pattern, or of the other.
use Rattle.patterns.specs.Patterns.{made_of}
use Rattle.patterns.proofs.made_of.Goals as goal

pub returns-then-pattern-eq15 : goal.returns-then-pattern-eq15
unfolding made_of
returns-then-pattern-eq15 c = (rw c.if-pattern-eq15.true c.one_if_same.ensures.0, c.one_if_same.ensures.1)

pub returns-else-pattern-eq15 : goal.returns-else-pattern-eq15
unfolding made_of
returns-else-pattern-eq15 c =
    let same = c.one_if_same-else-pattern-eq15.ensures in
    (rw (c.requires c.if-pattern-eq15.false) same.0, same.1)
