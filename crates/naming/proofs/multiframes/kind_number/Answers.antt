-- The arm of the kind says its number; of a fixed digit, its place does.
use Rattle.naming.proofs.multiframes.kind_number.Goals as goal

pub returns-in-Fixed : goal.returns-in-Fixed
returns-in-Fixed c = rw c.in-Fixed.is c.fixed_number.ensures
