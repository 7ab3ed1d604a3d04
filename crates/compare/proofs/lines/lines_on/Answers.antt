-- `lines_on`: refused with 2 and the list left, or compared.
use mathlib.Core.Path.{refl, sym, ◌∙◌}
use borrow.Author.Tests.{eqb-true}
use Rattle.compare.proofs.TwoLines.{lines_fit}
use Rattle.compare.proofs.lines.lines_on.Goals as goal

pub counted_on-requires : goal.counted_on-requires
counted_on-requires c = lines_fit _ c.requires _ _ (eqb-true _ _ (sym c.fits.ensures ∙ c.if-fits.true))

pub returns-then-fits : goal.returns-then-fits
returns-then-fits c = rw (sym c.fits.ensures ∙ c.if-fits.true) c.counted_on.ensures

pub returns-else-fits : goal.returns-else-fits
returns-else-fits c = rw (sym c.fits.ensures ∙ c.if-fits.false) (c.refused.ensures ∙ rw c.fault_in.ensures refl, refl)
