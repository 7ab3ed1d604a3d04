-- `put_one`: the three ways of one place, by the laws of Puts.
use mathlib.Core.Path.{◌≡◌, sym, ◌∙◌, ap}
use mathlib.Core.Bool.{Bool}
use Rattle.levels.specs.declared.order.Action.{Action}
use Rattle.levels.specs.declared.places.Kind.{Kind}
use Rattle.levels.specs.Places.{is_own}
use Rattle.levels.specs.Order.{carried}
use Rattle.levels.proofs.Line.{word-within}
use Rattle.swap.proofs.Puts.{put-none, put-carried, put-idle}
use Rattle.swap.proofs.put_one.Goals as goal

-- whether the place carries, by its kind as it was found and by what was answered of that
answered : (act : Action) {k k' : Kind} {b t : Bool} → k ≡ k' → b ≡ carried k act → b ≡ t → carried k' act ≡ t
answered act ek eb et = ap (λ (k : Kind). carried k act) (sym ek) ∙ sym eb ∙ et

pub returns-then-not-is_own : goal.returns-then-not-is_own
returns-then-not-is_own c =
    put-none _ _ _ _ _ _ _ _ _ (ap is_own (sym c.kind_of-kind.ensures) ∙ sym c.is_own.ensures ∙ c.if-not-is_own.true)

pub tributary_digit-requires : goal.tributary_digit-requires
tributary_digit-requires c =
    c.requires.4 (answered _ c.kind_of-kind.ensures c.carries_digit.ensures c.if-carries_digit.true)

pub returns-then-carries_digit : goal.returns-then-carries_digit
returns-then-carries_digit c =
    let put = c.put_line_digit.ensures in
    let own = ap is_own (sym c.kind_of-kind.ensures) ∙ sym c.is_own.ensures ∙ c.if-not-is_own.false in
    let carrying = answered _ c.kind_of-kind.ensures c.carries_digit.ensures c.if-carries_digit.true in
    put-carried _ _ _ _ _ _ _ _ _ own _ put.1 carrying (put.0 ∙ rw c.tributary_digit.ensures.0)

pub idle_digit-requires : goal.idle_digit-requires
idle_digit-requires c =
    (c.requires.0, c.requires.2, λ e. word-within _ c.args.at.set _ (sym c.kind_of-kind.ensures ∙ e))

pub returns-else-carries_digit : goal.returns-else-carries_digit
returns-else-carries_digit c =
    let put = c.put_line_digit-else-carries_digit.ensures in
    let own = ap is_own (sym c.kind_of-kind.ensures) ∙ sym c.is_own.ensures ∙ c.if-not-is_own.false in
    let none = answered _ c.kind_of-kind.ensures c.carries_digit.ensures c.if-carries_digit.false in
    put-idle _ _ _ _ _ _ _ _ _ own _ put.1 none _ ((rw c.kind_of-kind.ensures at c.idle_digit.ensures.0) _ _ none) put.0
