-- `number_at` is `number_at`: what a place is, is what its place in the frame is.
use Rattle.tally.specs.Tally.{number_at}
use Rattle.tally.proofs.Sums.{in_frame, kind-in-frame}
use Rattle.tally.proofs.number_at.Goals as goal

pub kind_at-kind-requires : goal.kind_at-kind-requires
kind_at-kind-requires c = (c.requires, in_frame _ c.requires _)

pub returns : goal.returns
unfolding number_at
returns c =
    let kind = c.kind_at-kind.ensures in
    rw (← kind-in-frame c.args.row c.requires c.args.p.0, ← kind, ← c.tributary_at.ensures) c.sum_number.ensures
