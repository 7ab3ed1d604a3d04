-- `told_taken`: by the best lane.
use Rattle.verdict.proofs.Telling.{told-best}
use Rattle.verdict.proofs.answer.told_taken.Goals as goal

pub returns : goal.returns
returns c =
    let l = c.args.block.now in
    let best = c.best_of-c in
    told-best l c.requires.2 _ c.load.ensures best.result best.ensures.0 best.ensures.1 c.beyond-wrong.result c.beyond-wrong.ensures c.signed_shift-shift.result c.signed_shift-shift.ensures
