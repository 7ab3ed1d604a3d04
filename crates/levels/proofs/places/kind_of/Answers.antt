-- `kind_of` is `kind_of`: the first set's answer, the last set's, or that of a set between.
use borrow.Author.Tests.{eq-eqb, ne_eqb}
use Rattle.levels.specs.Places.{kind_of}
use Rattle.levels.proofs.places.kind_of.Goals as goal

pub returns-then-at-eq0 : goal.returns-then-at-eq0
unfolding kind_of
returns-then-at-eq0 c = rw (c.first_set.ensures, eq-eqb _ _ c.if-at-eq0.true)

pub returns-then-at-row : goal.returns-then-at-row
unfolding kind_of
returns-then-at-row c =
    rw (c.last_set.ensures, ne_eqb _ _ c.if-at-eq0.false, eq-eqb _ _ c.if-at-row.true)

pub returns-else-at-row : goal.returns-else-at-row
unfolding kind_of
returns-else-at-row c =
    rw (c.middle_set.ensures, ne_eqb _ _ c.if-at-eq0.false, ne_eqb _ _ c.if-at-row.false)
