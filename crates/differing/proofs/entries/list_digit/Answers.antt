-- `list_digit`: one place more, by the laws of Walking.
use mathlib.Core.Path.{sym, ◌∙◌}
use Rattle.differing.proofs.Walking.{listed-pass, listed_more, not-differ, do-differ}
use Rattle.differing.proofs.entries.list_digit.Goals as goal

pub returns-then-line_digit : goal.returns-then-line_digit
returns-then-line_digit c = listed-pass _ _ _ _ _ _ c.requires.2 (not-differ _ _ _ (sym c.line_digit.ensures.0 ∙ c.if-line_digit.true ∙ c.line_digit-2.ensures.0))

pub returns-else-line_digit : goal.returns-else-line_digit
returns-else-line_digit c =
    rw c.list_place.ensures
    (listed_more _ _ _ _ _ _ c.requires.2 (do-differ _ _ _ (λ e. c.if-line_digit.false (c.line_digit.ensures.0 ∙ e ∙ sym c.line_digit-2.ensures.0))))
