-- `hunt_on`: what `seek` passed leaves the same to do (proofs/Hunts.antt).
use mathlib.Core.Path.{sym, ◌∙◌}
use Rattle.receiver.proofs.Hunts.{word-asked, hunted-none, hunted-passed}
use Rattle.receiver.proofs.hurry.hunt_on.Goals as goal

pub returns-then-not-is_hunting : goal.returns-then-not-is_hunting
returns-then-not-is_hunting c =
    hunted-none c.args.row c.requires.0 _ _ _ _ c.requires.2 c.requires.4

pub seek-s-requires : goal.seek-s-requires
seek-s-requires c =
    (word-asked c.args.row c.requires.0 _ c.requires.1, c.requires.2.window, c.requires.3, c.requires.4, c.requires.5)

pub returns : goal.returns
returns c =
    let hunts = sym c.is_hunting.ensures ∙ c.if-not-is_hunting.false in
    let h = c.hunt_at.ensures in
    hunted-passed c.args.row c.requires.0 _ _ _ c.args.c _ _ c.requires.2 hunts c.requires.5 c.seek-s.ensures _ _ _ h.0 h.1 h.2
