-- `feed_next`: the vote behind the line is known or 16.
use native.Mathlib.Omega.{arith}
use borrow.Author.Tests.{eq-eqb, ne_eqb}
use Rattle.verdict_blocks.specs.Readings.{ran_after}
use Rattle.verdict.proofs.behind.feed_next.Goals as goal

pub feed_both-requires : goal.feed_both-requires
feed_both-requires c = (c.requires.0, c.requires.1, c.requires.2, c.requires.3)

pub shape_of-state-then-next-eq16 : goal.shape_of-state-then-next-eq16
shape_of-state-then-next-eq16 c = c.feed_both.auto.state

pub shape_of-room-then-next-eq16 : goal.shape_of-room-then-next-eq16
shape_of-room-then-next-eq16 c = c.feed_both.auto.room

pub shape_of-scratch-then-next-eq16 : goal.shape_of-scratch-then-next-eq16
shape_of-scratch-then-next-eq16 c = c.feed_both.auto.scratch

pub returns-then-next-eq16 : goal.returns-then-next-eq16
unfolding ran_after
returns-then-next-eq16 c = rw (eq-eqb c.args.next 16 c.if-next-eq16.true) c.feed_both.ensures

pub feed_after-requires : goal.feed_after-requires
feed_after-requires c = (c.requires.0, c.requires.1, c.requires.2, c.requires.3, omega (arith, c.requires.4, c.if-next-eq16.false))

pub shape_of-state-else-next-eq16 : goal.shape_of-state-else-next-eq16
shape_of-state-else-next-eq16 c = c.feed_after.auto.state

pub shape_of-room-else-next-eq16 : goal.shape_of-room-else-next-eq16
shape_of-room-else-next-eq16 c = c.feed_after.auto.room

pub shape_of-scratch-else-next-eq16 : goal.shape_of-scratch-else-next-eq16
shape_of-scratch-else-next-eq16 c = c.feed_after.auto.scratch

pub returns-else-next-eq16 : goal.returns-else-next-eq16
unfolding ran_after
returns-else-next-eq16 c = rw (ne_eqb c.args.next 16 c.if-next-eq16.false) c.feed_after.ensures
