-- `feed`: a level's row, or refused with 6.
use mathlib.Core.Path.{refl, sym, ◌∙◌}
use Rattle.levels.proofs.Rows.{shared-row}
use borrow.Author.Rules.{rules}
use Rattle.verdict.proofs.feeding.feed.Goals as goal

pub feed_on-requires : goal.feed_on-requires
feed_on-requires c = (shared-row _ _ (sym c.level_of.ensures ∙ c.in-Some.is), search rules, refl)

pub returns-in-Some : goal.returns-in-Some
returns-in-Some c =
    let e = sym c.level_of.ensures ∙ c.in-Some.is in
    record { number = rw e c.feed_on.ensures.0; leaves = rw e c.feed_on.ensures.1; answers = rw e c.feed_on.ensures.2 }

pub returns-in-None : goal.returns-in-None
returns-in-None c =
    let e = sym c.level_of.ensures ∙ c.in-None.is in
    record { number = rw e refl; leaves = rw e refl; answers = rw e refl }
