-- `send_frames`: the frames so far; at the end the writer holds nothing.
use mathlib.Core.Path.{◌≡◌, refl, ◌∙◌}
use Prim.Native.Nat.{◌*◌}
use native.Mathlib.Omega.{arith}
use lib.ListN.{length}
use Rattle.digits.specs.Digits.{Bytes}
use Rattle.levels.proofs.Room.{line_whole}
use Rattle.multiplex.proofs.Running.{sending-start, all-sent}
use Rattle.multiplex.proofs.send_frames.Goals as goal

pub loop-f-init : goal.loop-f-init
loop-f-init c =
    let b = c.args in
    let pre = c.requires in
    (c.spread_table-table.ensures, refl, sending-start b.row pre.0 b.earlier b.notes.now b.buffer.now b.line.now pre.1)

pub send_frame-w-requires : goal.send_frame-w-requires
send_frame-w-requires c =
    let l = c.loop-f in
    let test = c.loop-f-test in
    let pre = c.requires in
    (l.invariant.0, test.true, pre.1.quarters, l.invariant.2)

pub loop-f-preserved : goal.loop-f-preserved
loop-f-preserved c =
    let test = c.loop-f-test in
    let l = c.loop-f in
    let send-frame = c.send_frame-w in
    (l.invariant.0, send-frame.auto.line ∙ l.invariant.1, send-frame.ensures)

pub finish-requires : goal.finish-requires
finish-requires c =
    let b = c.args in
    let l = c.loop-f in
    let s = l.invariant.2 in
    let end : l.f ≡ length b.notes.now = omega arith in
    let e : l.f * b.row.digits ≡ length b.notes.now * b.row.digits = rw end in
    (s.ready, omega (arith, s.place, e, line_whole _ _ _ _ s.fits))

pub returns : goal.returns
returns c =
    let test = c.loop-f-test in
    let finish = c.finish in
    let pre = c.requires in
    let l = c.loop-f in
    let b = c.args in
    let end : l.f ≡ length b.notes.now = omega arith in
    let bytes : Bytes finish.new.s = λ i. omega (arith, c.type_inv.line i) in
    all-sent b.row pre.0 b.earlier b.notes.now b.buffer.now b.line.now pre.1 l.line _ l.w _ l.next l.invariant.1 (rw end at l.invariant.2)
    finish.ensures finish.auto.s bytes
