-- `read_frames` leaves the notes of the frames and answers the counts of errors: the invariant is `Reading`, of the frames read so far.
use native.Mathlib.Omega.{arith}
use Rattle.digits.specs.Digits.{digits_of}
use Rattle.digits.proofs.Laws.{digits-binary}
use Rattle.reading.proofs.Lanes.{counts-ask, frame-said}
use Rattle.reading.proofs.Reading.{reading-none, word-asks, alignment-small, sums-ask, reading-more, reading-all}
use Rattle.reading.proofs.read_frames.Goals as goal

pub loop-f-init : goal.loop-f-init
loop-f-init c =
    reading-none c.args.row c.args.line.now c.args.notes.now c.requires.0 c.requires.1 c.requires.2

pub said_by-read-requires : goal.said_by-read-requires
said_by-read-requires c =
    let l = c.loop-f in
    let a = c.args in
    let counts = c.group_ones-ones in
    counts-ask a.row (digits_of a.line.now) (digits-binary a.line.now) l.f l.invariant.shared counts.result counts.ensures
    c.services_at-services.result
    c.services_at-services.ensures.1

pub four_sums-sums-requires : goal.four_sums-sums-requires
four_sums-sums-requires c =
    let l = c.loop-f in
    let a = c.args in
    let counts = c.group_ones-ones in
    let services = c.services_at-services in
    let read = c.said_by-read in
    let said = frame-said a.row (digits_of a.line.now) (digits-binary a.line.now) l.f l.invariant.shared counts.result counts.ensures
    services.result
    services.ensures.0
    read.result
    read.ensures
    in
    sums-ask l.invariant (omega arith) read.result.dissent said.1

pub word_errors-requires : goal.word_errors-requires
word_errors-requires c = word-asks c.loop-f.invariant (omega arith)

pub overflow_add-alignment : goal.overflow_add-alignment
overflow_add-alignment c = omega (arith, alignment-small c.loop-f.invariant (omega arith))

pub loop-f-preserved : goal.loop-f-preserved
loop-f-preserved c =
    let sums = c.four_sums-sums in
    let read = c.said_by-read in
    let services = c.services_at-services in
    let counts = c.group_ones-ones in
    let l = c.loop-f in
    let a = c.args in
    let said = frame-said a.row (digits_of a.line.now) (digits-binary a.line.now) l.f l.invariant.shared counts.result counts.ensures
    services.result
    services.ensures.0
    read.result
    read.ensures
    in
    reading-more l.invariant (omega arith) read.result.dissent said.1 read.result.note c.word_errors.result sums.result said.0
    c.word_errors.ensures
    sums.ensures

pub returns : goal.returns
returns c = reading-all c.loop-f.invariant (omega arith)
