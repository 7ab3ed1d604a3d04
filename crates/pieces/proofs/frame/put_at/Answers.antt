-- `put_at` leaves the array that has the digit put.
use Rattle.pieces.proofs.Holding.{put_is}
use Rattle.pieces.proofs.frame.put_at.Goals as goal

pub returns : goal.returns
returns c = put_is _ _ _ _ c.put_digit.ensures.0 c.put_digit.ensures.1
