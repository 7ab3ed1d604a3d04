-- `fits_four`: each tributary's own readings.
use Rattle.judge.proofs.fits_four.Goals as goal

pub returns : goal.returns
returns c = rw (c.fits_of.ensures, c.fits_of-2.ensures, c.fits_of-3.ensures, c.fits_of-4.ensures)
