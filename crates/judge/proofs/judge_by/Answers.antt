-- `judge_by`: the readings, which of them fit, and the changes.
use Rattle.judge.specs.Verdict.{judgement}
use Rattle.judge.proofs.judge_by.Goals as goal

pub before_wrong-before-requires : goal.before_wrong-before-requires
before_wrong-before-requires c =
    let p = c.requires in
    (rw c.own_wrong-own.auto.room p.0, p.1, p.2)

pub after_wrong-after-requires : goal.after_wrong-after-requires
after_wrong-after-requires c =
    let p = c.requires in
    (rw (c.before_wrong-before.auto.room, c.own_wrong-own.auto.room) p.0, p.1)

pub changes_in-changes-requires : goal.changes_in-changes-requires
changes_in-changes-requires c =
    let p = c.requires in
    (p.0.shared, p.0.accepted.framed, p.1)

pub returns : goal.returns
unfolding judgement
returns c =
    rw (c.fits_four-fits.ensures, c.changes_in-changes.ensures, c.own_wrong-own.ensures, c.before_wrong-before.ensures, c.after_wrong-after.ensures)
