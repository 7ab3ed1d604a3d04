-- `extract_frames` hands out the frames of a line: the invariant is `Handing`, of the columns up to the next frame.
use mathlib.Core.Path.{◌≡◌, refl}
use Prim.Native.Nat.{ℕ, ◌*◌}
use native.Mathlib.Omega.{arith}
use native.Mathlib.Nat.{zero-mul}
use lib.ListN.{length}
use Rattle.digits.proofs.Lists.{of_four}
use Rattle.words.specs.declared.Writer.{Writer}
use Rattle.levels.proofs.Columns.{columns}
use Rattle.unweave.specs.Quarters.{writer_of}
use Rattle.extraction.proofs.Handing.{frames-all, handing-none}
use Rattle.extraction.proofs.frames.extract_frames.Goals as goal

abbrev first : Writer
first = record { at = 0; held = 0; fill = 0 }

pub loop-f-init : goal.loop-f-init
loop-f-init c =
    let line = c.args.line.now in
    let notes = c.args.notes.now in (
      refl,
      rw (zero-mul (columns c.args.row))
          (handing-none c.args.earlier line notes c.args.buffer.now c.requires.0 c.requires.1 _
          (of_four (λ (j : ℕ). writer_of (record { a = first; b = first; c = first; d = first }) j ≡ first) refl refl refl refl)),
    )

pub returns : goal.returns
returns c =
    let all : c.loop-f.f ≡ length c.args.notes.now = omega arith in
    let end : c.loop-f.f * columns c.args.row ≡ 2 * length c.args.line.now = rw all (frames-all c.requires.0) in
    rw end at c.loop-f.invariant.1
