-- `keep` is `keep_of`, a case of the document's sentence to a `return`.
use mathlib.Core.Path.{sym, ◌∙◌}
use native.Mathlib.Omega.{arith}
use borrow.Author.Tests.{eq-eqb, ne_eqb, le-leb, lt-leb}
use Rattle.pieces.specs.Frame.{keep_of}
use Rattle.pieces.proofs.frame.keep.Goals as goal

pub returns-then-is_hunting : goal.returns-then-is_hunting
unfolding keep_of
returns-then-is_hunting c = rw (sym c.is_hunting.ensures ∙ c.if-is_hunting.true)

pub returns-then-c-eq0 : goal.returns-then-c-eq0
unfolding keep_of
returns-then-c-eq0 c = rw (sym c.is_hunting.ensures ∙ c.if-is_hunting.false, eq-eqb _ _ c.if-c-eq0.true) c.begin.ensures

pub overflow_sub-row-then-c-row : goal.overflow_sub-row-then-c-row
overflow_sub-row-then-c-row c = omega (arith, c.requires.0.word_some)

pub returns-then-c-row : goal.returns-then-c-row
unfolding keep_of
returns-then-c-row c =
    rw (sym c.is_hunting.ensures ∙ c.if-is_hunting.false, ne_eqb _ _ c.if-c-eq0.false, le-leb _ _ c.if-c-row.true) c.put_at.ensures

pub returns-else-c-row : goal.returns-else-c-row
unfolding keep_of
returns-else-c-row c =
    rw (sym c.is_hunting.ensures ∙ c.if-is_hunting.false, ne_eqb _ _ c.if-c-eq0.false, lt-leb _ _ c.if-c-row.false)
