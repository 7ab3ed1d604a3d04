-- `read`: the notes of the frames and the counts of errors, frame after frame, by the laws of Noting.
use native.Mathlib.Omega.{arith}
use Rattle.plain.proofs.Noting.{noting-none, within, alignment-small, sums-ask, noting-more, noting-all}
use Rattle.plain.proofs.reading.read.Goals as goal

pub loop-f-init : goal.loop-f-init
loop-f-init c =
    noting-none c.args.row c.args.line.now c.args.notes.now c.requires.0 c.requires.1

pub said_by-said-requires : goal.said_by-said-requires
said_by-said-requires c =
    (c.requires.0, within c.loop-f.invariant (omega (arith, c.loop-f.invariant.size)))

pub four_sums-sums-requires : goal.four_sums-sums-requires
four_sums-sums-requires c =
    let said = c.said_by-said in
    sums-ask c.loop-f.invariant (omega (arith, c.loop-f.invariant.size)) said.result.dissent said.ensures.3

pub overflow_add-alignment : goal.overflow_add-alignment
overflow_add-alignment c =
    omega (arith, alignment-small c.loop-f.invariant (omega (arith, c.loop-f.invariant.size)), c.said_by-said.ensures.2, c.requires.0.short)

pub loop-f-preserved : goal.loop-f-preserved
loop-f-preserved c =
    let said = c.said_by-said in
    let sums = c.four_sums-sums in
    (noting-more c.loop-f.invariant (omega (arith, c.loop-f.invariant.size)) said.result.dissent said.ensures.3 said.result.note
    said.result.wrong sums.result said.ensures.0 said.ensures.1 said.ensures.2 sums.ensures)

pub returns : goal.returns
returns c = noting-all c.loop-f.invariant (omega (arith, c.loop-f.invariant.size))
