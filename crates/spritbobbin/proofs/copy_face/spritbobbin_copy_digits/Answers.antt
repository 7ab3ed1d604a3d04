-- The C call is the call behind it.
use Rattle.spritbobbin.proofs.copy_face.spritbobbin_copy_digits.Goals as goal

pub returns : goal.returns
returns c = rw c.number_in.ensures c.copy_digits-done.ensures
