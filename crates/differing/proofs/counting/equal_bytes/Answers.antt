-- `equal_bytes`: slices that are equal have the same byte at each place.
use Rattle.std.proofs.lemmas.Bool.Decides.{Decides-eqb}
use Rattle.std.proofs.lemmas.Slice.Eq.{slice_eq-Decides}
use Rattle.differing.proofs.Walking.{equal-stretch}
use Rattle.differing.proofs.counting.equal_bytes.Goals as goal

pub returns : goal.returns
returns c = λ z. equal-stretch _ _ _ _ ((slice_eq-Decides Decides-eqb _ _ _ c.eq.ensures).0 z)
