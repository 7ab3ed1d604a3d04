-- The notes are delayed in the part of the room that is lent for them (Lateness).
use Rattle.late.proofs.Lateness.{late-lent}
use Rattle.late.proofs.delayed.Goals as goal

pub returns : goal.returns
returns c =
    let made = c.no_notes-late in
    late-lent c.args.before c.args.notes.now made.result _ made.ensures c.requires c.delay.ensures
