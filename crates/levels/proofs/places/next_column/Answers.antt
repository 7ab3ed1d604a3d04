-- `next_column` moves the walk four places on: each return is a law of Positions.
use Rattle.levels.proofs.Positions.{next-in-set, next-set, next-frame}
use Rattle.levels.proofs.places.next_column.Goals as goal

pub returns-then-place-row : goal.returns-then-place-row
returns-then-place-row c =
    λ p e. next-in-set c.args.row c.requires.0 p c.args.at e c.if-place-row.true

pub returns-then-set-row : goal.returns-then-set-row
returns-then-set-row c =
    λ p e. next-set c.args.row c.requires.0 p c.args.at e c.if-place-row.false c.if-set-row.true

pub returns-else-set-row : goal.returns-else-set-row
returns-else-set-row c =
    λ p e. next-frame c.args.row c.requires.0 p c.args.at e c.if-place-row.false c.if-set-row.false
