-- `hunt_on`: what `seek` passed leaves the same to do (proofs/Hurries.antt).
use Rattle.finder_2048.proofs.Hurries.{hurried-passed}
use Rattle.finder_2048.proofs.hurry.hunt_on.Goals as goal

pub returns : goal.returns
returns c =
    hurried-passed _ _ _ c.args.s _ _ c.requires.0 c.requires.1 c.requires.4 c.seek-sought.ensures _ c.still_hunting.ensures
