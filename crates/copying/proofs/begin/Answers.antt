-- The digits of the byte before the place are read and held.
use Rattle.copying.proofs.Carried.{begun}
use Rattle.copying.proofs.begin.Goals as goal

pub returns : goal.returns
returns c =
    let a = c.args in
    let r = c.word_at-held.ensures in
    begun a.to.now a.at c.word_at-held.result r.1 r.0
