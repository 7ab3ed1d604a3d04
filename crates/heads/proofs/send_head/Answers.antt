-- `send_head`: the columns so far as a number (Placing).
use mathlib.Core.Path.{◌≡◌}
use Prim.Native.Nat.{◌+◌, ◌*◌, ◌<◌}
use native.Mathlib.Omega.{arith}
use lib.Pow.{pow_mono}
use Rattle.levels.specs.Places.{head_end}
use Rattle.levels.proofs.Room.{set-in-line}
use Rattle.levels.proofs.Runs.{head-end-fours, head-end-short, head-end-in}
use Rattle.heads.proofs.Placing.{Headed, headed-start, headed-column, column-rely}
use Rattle.heads.proofs.Sending.{head-sent}
use Rattle.words.specs.Words.{out_from}
use Rattle.heads.proofs.send_head.Goals.{Left-loop-r, else-loop-r-test, then-loop-r-test+else-end-r-gt4}
use Rattle.heads.proofs.send_head.Goals as goal

pub note_of-note-requires : goal.note_of-note-requires
note_of-note-requires c = c.requires.0

pub preceding_of-preceding-requires : goal.preceding_of-preceding-requires
preceding_of-preceding-requires c = c.requires.0

pub head_end-end-requires : goal.head_end-end-requires
head_end-end-requires c = c.requires.3.fits.shared

pub loop-r-init : goal.loop-r-init
loop-r-init c =
    let pre = c.requires in
    (omega arith, c.head_end-end.ensures, c.note_of-note.ensures, c.preceding_of-preceding.ensures, headed-start _ _ _ _ _ _ _ pre.3.sent, omega arith)

pub overflow_mul-word : goal.overflow_mul-word
overflow_mul-word c =
    let pre = c.requires in
    let b = c.args in
    let l = c.loop-r in
    omega (arith, l.invariant.4.few, pow_mono {i = l.r} {j = 16} (omega (arith, l.invariant.0, l.invariant.1, head-end-short _ pre.3.fits.shared b.set)))

pub head_column-requires : goal.head_column-requires
head_column-requires c =
    let preceding-of = c.preceding_of-preceding in
    let note-of = c.note_of-note in
    let l = c.loop-r in
    let b = c.args in
    let h = c.requires.3 in
    let inside : l.r < b.row.set = omega (arith, c.loop-r-test.true, l.invariant.1, head-end-in _ h.fits.shared b.set) in
    let rely =
    column-rely b.row h.fits.shared b.f b.set l.r (b.f * b.row.digits + b.set * b.row.set + l.r) (omega arith) c.requires.1 l.invariant.5 inside
    b.earlier b.notes.now preceding-of.result note-of.result l.invariant.3 l.invariant.2 _ _ h.fits c.requires.0 b.buffer.now l.next _
    l.invariant.4.sent in (
      omega (arith, c.loop-r-test.true, l.invariant.1),
      record { shared = h.fits.shared; quarters = c.requires.2; four = l.invariant.4.sent.four; column = l.invariant.5; rely = rely },
    )

pub overflow_add-word : goal.overflow_add-word
overflow_add-word c =
    let pre = c.requires in
    let b = c.args in
    let l = c.loop-r in
    let short = head-end-short _ pre.3.fits.shared b.set in
    omega (arith, l.invariant.4.few, c.head_column.ensures.few, pow_mono {i = l.r} {j = 16} (omega (arith, l.invariant.0, l.invariant.1, short)))

pub overflow_step-r : goal.overflow_step-r
overflow_step-r c =
    omega (arith, c.loop-r-test.true, c.loop-r.invariant.1, head-end-short _ c.requires.3.fits.shared c.args.set)

pub loop-r-preserved : goal.loop-r-preserved
loop-r-preserved c =
    let l = c.loop-r in
    let b = c.args in
    let h = c.requires.3 in
    let inside : l.r < b.row.set = omega (arith, c.loop-r-test.true, l.invariant.1, head-end-in _ h.fits.shared b.set) in
    let more =
    headed-column b.row h.fits.shared b.f b.set l.r c.requires.1 l.invariant.5 inside b.earlier b.notes.now b.buffer.now _ _ _ l.word _ l.next _ l.invariant.3
    l.invariant.2 l.invariant.4 c.head_column.ensures in
    (omega (arith, c.loop-r-test.true, l.invariant.1, l.invariant.5, head-end-fours _ h.fits.shared b.set), l.invariant.1, l.invariant.2, l.invariant.3, more, omega (arith, l.invariant.5))

-- all of the head: no column, or one more after those before the last
headed : (c : Left-loop-r) → Headed c.args.row c.args.earlier c.args.notes.now c.args.buffer.now (c.args.f * c.args.row.digits + c.args.set * c.args.row.set)
    (out_from 0 c.args.line.now c.args.w) c.head_end-end.result c.loop-r-test.word c.loop-r-test.next
headed c =
    let l = c.loop-r in
    let b = c.args in
    let h = c.requires.3 in
    elim c.loop-r-test.branch [
      | else-loop-r-test w ↦
          let end : l.r ≡ c.head_end-end.result = omega (arith, l.invariant.0, w.loop-r-test.false) in
          rw (w.word-is, w.next-is, ← end) l.invariant.4
      | then-loop-r-test+else-end-r-gt4 w ↦
          let inside : l.r < b.row.set = omega (arith, w.loop-r-test.true, l.invariant.1, head-end-in _ h.fits.shared b.set) in
          let end : l.r + 4 ≡ c.head_end-end.result =
          omega (arith, w, w.loop-r-test.true, l.invariant.1, l.invariant.5, head-end-fours _ h.fits.shared b.set) in
          rw (w.word-is, w.next-is, ← end)
          (headed-column b.row h.fits.shared b.f b.set l.r c.requires.1 l.invariant.5 inside b.earlier b.notes.now b.buffer.now _ _ _ l.word _ l.next _
          l.invariant.3 l.invariant.2 l.invariant.4 w.head_column.ensures)
    ]

pub put-requires : goal.put-requires
put-requires c =
    let pre = c.requires in
    let l = c.loop-r in
    let b = c.args in
    let h = pre.3 in
    let room = set-in-line _ _ _ _ h.fits b.f b.set pre.0 pre.1 in
    let most = head-end-short _ h.fits.shared b.set in
    let inside = head-end-in _ h.fits.shared b.set in
    (h.ready, omega (arith, l.invariant.1, most), (headed (goal.at.put-requires c).Left-loop-r).few, omega (arith, l.invariant.1, h.place, room, inside))

pub returns : goal.returns
returns c =
    let head-end = c.head_end-end in
    let b = c.args in
    let put = c.put in
    let sent = head-sent _ _ _ _ _ head-end.result c.loop-r-test.word _ _ _ _ _ c.loop-r-test.next c.requires.3 put.ensures put.auto.s (headed (goal.at.returns c).Left-loop-r) in
    let e : b.f * b.row.digits + (b.set * b.row.set + head_end b.row b.set) ≡ b.f * b.row.digits + b.set * b.row.set + head-end.result = omega (arith, head-end.ensures) in
    rw e sent
