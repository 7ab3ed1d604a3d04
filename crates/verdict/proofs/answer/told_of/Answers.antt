-- `told_of`: what was sent is known, or not yet.
use borrow.Author.Tests.{ne_eqb}
use Rattle.verdict_blocks.specs.Keeping.{block_from}
use Rattle.verdict.specs.Feed.{told_of}
use Rattle.verdict.proofs.answer.told_of.Goals as goal

pub returns-else-block-eq1 : goal.returns-else-block-eq1
unfolding told_of block_from
returns-else-block-eq1 c = rw (ne_eqb _ _ c.if-block-eq1.false)
