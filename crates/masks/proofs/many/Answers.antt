-- `many`: 56 of the 64 digits that are loaded.
use Rattle.masks.proofs.Differing.{differing-part}
use Rattle.masks.proofs.many.Goals as goal

pub returns : goal.returns
returns c = rw (c.load8.ensures, c.load8-2.ensures) (differing-part _ _ c.args.p)
