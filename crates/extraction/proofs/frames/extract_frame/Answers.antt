-- `extract_frame` hands out the sets of a frame: the invariant is `Handing`, of the columns up to the next set.
use mathlib.Core.Path.{◌≡◌, refl, ◌∙◌}
use Prim.Native.Nat.{◌+◌, ◌*◌}
use native.Mathlib.Omega.{arith}
use native.Mathlib.Nat.{add-zero, zero-mul}
use Rattle.levels.proofs.Columns.{wide, columns}
use Rattle.extraction.proofs.Handing.{frame-all, set-inside, line_short, set-roomy, handing-set}
use Rattle.extraction.proofs.frames.extract_frame.Goals as goal

pub note_of-note-requires : goal.note_of-note-requires
note_of-note-requires c =
    c.requires.0

pub preceding_of-preceding-requires : goal.preceding_of-preceding-requires
preceding_of-preceding-requires c =
    c.requires.0

pub loop-s-init : goal.loop-s-init
loop-s-init c =
    let row = c.args.row in
    let none : c.args.f * columns row + 0 * wide row ≡ c.args.f * columns row = rw (zero-mul (wide row)) (add-zero (c.args.f * columns row)) in
    (refl, rw none c.requires.1)

pub receive_set-w-requires : goal.receive_set-w-requires
receive_set-w-requires c =
    let so_far = c.loop-s.invariant.1 in
    let inside = set-inside c.requires.1.fits c.args.f c.loop-s.s c.requires.0 c.loop-s-test.true in (
      c.requires.1.fits.shared,
      inside,
      omega (arith, inside, line_short c.requires.1.fits),
      omega (arith, so_far.size),
      set-roomy c.args.f c.loop-s.s so_far c.requires.0 c.loop-s-test.true refl c.preceding_of-preceding.ensures c.note_of-note.ensures,
    )

pub loop-s-preserved : goal.loop-s-preserved
loop-s-preserved c =
    let kept = c.receive_set-w.auto.buffer in (
      kept ∙ c.loop-s.invariant.0,
      handing-set c.args.f c.loop-s.s c.loop-s.invariant.1 c.requires.0 c.loop-s-test.true refl c.preceding_of-preceding.ensures c.note_of-note.ensures c.receive_set-w.ensures kept,
    )

pub returns : goal.returns
returns c =
    let all : c.loop-s.s ≡ c.args.row.sets = omega arith in
    let end : c.args.f * columns c.args.row + c.loop-s.s * wide c.args.row ≡ (c.args.f + 1) * columns c.args.row =
    rw all (frame-all c.requires.1.fits c.args.f) in
    rw end at c.loop-s.invariant.1
