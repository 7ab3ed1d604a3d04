-- `feed_row` is `feed_row`: refused, or taken.
use mathlib.Core.Path.{sym, ◌∙◌}
use borrow.Author.Tests.{eq-eqb, ne_eqb}
use Rattle.receiver.specs.Feed.{feed_row}
use Rattle.receiver.proofs.Validity.{accepted-if}
use Rattle.receiver.proofs.feed_row.Goals as goal

pub returns-then-refusal-ne0 : goal.returns-then-refusal-ne0
unfolding feed_row
returns-then-refusal-ne0 c =
    let same = c.refusal_of-refusal.ensures in
    let refused = ne_eqb c.refusal_of-refusal.result 0 c.if-refusal-ne0.true in
    c.refuse.ensures ∙ rw (← c.core_of.ensures, ← same, refused)

pub take_piece-requires : goal.take_piece-requires
take_piece-requires c =
    let a = accepted-if _ _ _ _ _ _ (sym c.refusal_of-refusal.ensures ∙ c.if-refusal-ne0.false) in
    (c.requires, rw c.core_of.ensures at a.valid, a.counting, a.small, a.within)

pub returns-else-refusal-ne0 : goal.returns-else-refusal-ne0
unfolding feed_row
returns-else-refusal-ne0 c =
    let accepted = eq-eqb c.refusal_of-refusal.result 0 c.if-refusal-ne0.false in
    c.take_piece.ensures ∙ rw (← c.core_of.ensures, ← c.refusal_of-refusal.ensures, accepted)
