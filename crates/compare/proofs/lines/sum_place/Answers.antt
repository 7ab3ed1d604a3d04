-- `sum_place`: one place more of a stretch.
use native.Mathlib.Omega.{arith}
use mathlib.Core.Path.{sym, ◌∙◌}
use Rattle.differing.proofs.Walking.{not-differ, do-differ}
use Rattle.compare.proofs.TwoLines.{summed-pass, summed-more, summed-small, summed-all}
use Rattle.compare.proofs.lines.sum_place.Goals as goal

pub line_digit-requires : goal.line_digit-requires
line_digit-requires c = c.requires.2

pub line_digit-requires-2 : goal.line_digit-requires-2
line_digit-requires-2 c = omega (arith, c.requires.2, c.requires.0.same_length)

pub returns-then-line_digit : goal.returns-then-line_digit
returns-then-line_digit c =
    let b = c.requires in
    summed-pass _ _ _ _ _ _ _ b.3 b.1 (not-differ _ _ _ (sym c.line_digit.ensures.0 ∙ c.if-line_digit.true ∙ c.line_digit-2.ensures.0))

pub count_at-requires : goal.count_at-requires
count_at-requires c =
    let b = c.requires in
    (b.0.shared, λ k. omega (arith, summed-small _ _ _ _ _ _ _ b.3 k, b.2, b.0.short))

pub overflow_add-result : goal.overflow_add-result
overflow_add-result c =
    let b = c.requires in
    omega (arith, summed-all _ _ _ _ _ _ _ b.3, b.2, b.0.short)

pub returns-else-line_digit : goal.returns-else-line_digit
returns-else-line_digit c =
    let b = c.requires in
    rw c.count_at.ensures
    (summed-more _ _ _ _ _ _ _ b.3 b.1
    (do-differ _ _ _ (λ e. c.if-line_digit.false (c.line_digit.ensures.0 ∙ e ∙ sym c.line_digit-2.ensures.0))))
