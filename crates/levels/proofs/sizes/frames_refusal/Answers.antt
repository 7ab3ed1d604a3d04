-- `frames_refusal` is `frames_refusal`: each return rewrites with the tests that lead to it.
use mathlib.Core.Path.{sym, ◌∙◌}
use borrow.Author.Tests.{eq-eqb, ne_eqb}
use Rattle.levels.specs.Sizes.{frames_refusal}
use Rattle.levels.proofs.sizes.frames_refusal.Goals as goal

pub returns-then-bad_line : goal.returns-then-bad_line
unfolding frames_refusal
returns-then-bad_line c = rw (sym c.bad_line.ensures ∙ c.if-bad_line.true)

pub returns-then-notes-line : goal.returns-then-notes-line
unfolding frames_refusal
returns-then-notes-line c = rw (sym c.bad_line.ensures ∙ c.if-bad_line.false, ne_eqb _ _ c.if-notes-line.true)

pub returns : goal.returns
unfolding frames_refusal
returns c = rw (sym c.bad_line.ensures ∙ c.if-bad_line.false, eq-eqb _ _ c.if-notes-line.false)
