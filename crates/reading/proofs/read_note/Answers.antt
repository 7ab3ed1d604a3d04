-- `read_note` is what the counts of the frame's control groups and its service digits say.
use Rattle.digits.specs.Digits.{digits_of}
use Rattle.digits.proofs.Laws.{digits-binary}
use Rattle.reading.proofs.Lanes.{counts-ask, frame-said}
use Rattle.reading.proofs.read_note.Goals as goal

pub said_by-requires : goal.said_by-requires
said_by-requires c =
    let counts = c.group_ones-ones in
    counts-ask c.args.row (digits_of c.args.line.now) (digits-binary c.args.line.now) c.args.f c.requires.0 counts.result counts.ensures
    c.services_at-services.result
    c.services_at-services.ensures.1

pub returns : goal.returns
returns c =
    let counts = c.group_ones-ones in
    let services = c.services_at-services in
    frame-said c.args.row (digits_of c.args.line.now) (digits-binary c.args.line.now) c.args.f c.requires.0 counts.result counts.ensures
    services.result
    services.ensures.0
    c.said_by.result
    c.said_by.ensures
