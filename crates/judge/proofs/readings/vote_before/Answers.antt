-- `vote_before`: the earlier vote, which is at most 15 where the level looks at it, or the unknown one.
use mathlib.Core.Path.{sym, ◌∙◌}
use native.Mathlib.Omega.{arith}
use Prim.Native.Nat.{◌≤◌}
use borrow.Author.Tests.{ltb-false}
use Rattle.digits.proofs.Tests.{and-asked}
use Rattle.judge.proofs.readings.vote_before.Goals as goal

pub overflow_cast-result : goal.overflow_cast-result
overflow_cast-result c =
    let few : c.args.earlier ≤ 15 = ltb-false _ _ (and-asked _ _ c.requires (sym c.has_negative.ensures ∙ c.if-has_negative.true)) in
    omega (arith, few)

pub returns-then-has_negative : goal.returns-then-has_negative
returns-then-has_negative c = rw (sym c.has_negative.ensures ∙ c.if-has_negative.true)

pub returns-else-has_negative : goal.returns-else-has_negative
returns-else-has_negative c = rw (sym c.has_negative.ensures ∙ c.if-has_negative.false)
