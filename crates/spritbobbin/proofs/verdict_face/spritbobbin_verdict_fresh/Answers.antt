-- The C call is the call behind it.
use Rattle.spritbobbin.proofs.verdict_face.spritbobbin_verdict_fresh.Goals as goal

pub returns : goal.returns
returns c = rw c.number_in.ensures c.fresh-made.ensures
