-- `repair_frames`: frame after frame, each with the note that is read from it before anything of it is written.
use native.Mathlib.Omega.{arith}
use Rattle.repair.proofs.Frames.{framing-none, note-asks, frame-begun, framing-more, framing-all}
use Rattle.repair.proofs.repair_frames.Goals as goal

pub nonzero_div-frames : goal.nonzero_div-frames
nonzero_div-frames c =
    let sh = c.requires.0.shared in
    omega (arith, sh.packed, sh.counted, sh.last_least)

pub loop-f-init : goal.loop-f-init
loop-f-init c =
    let a = c.args in
    framing-none a.row a.earlier a.national a.line.now a.sums.now c.requires.0 (λ i. omega (arith, c.type_inv.line i)) c.requires.1

pub read_note-read-requires : goal.read_note-read-requires
read_note-read-requires c =
    let l = c.loop-f in
    note-asks l.invariant (omega arith)

pub repair_frame-requires : goal.repair_frame-requires
repair_frame-requires c =
    let l = c.loop-f in
    frame-begun l.invariant (omega arith) c.read_note-read.ensures.0

pub loop-f-preserved : goal.loop-f-preserved
loop-f-preserved c =
    let l = c.loop-f in
    framing-more l.invariant (omega arith) c.read_note-read.ensures.0 _ _ c.repair_frame.ensures

pub returns : goal.returns
returns c =
    let l = c.loop-f in
    framing-all l.invariant (omega arith)
